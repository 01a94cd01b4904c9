-- No two answers meet a promise of this crate.
use Rattle.std.proofs.Common.{◌≡◌, ℕ, ◌<◌, List, get_or, sym, ◌∙◌}
use Rattle.std.specs.Prelude.{Result, Ok}
use Rattle.modes.proofs.Unique.{one}
use Rattle.modes.specs.declared.Refusal.{Refusal}
use Rattle.record.specs.declared.Checked.{Checked}
use Rattle.tally.specs.Tallies.{Tallies}

-- where the record is accepted, the figures of all ranks are fixed too
pub one_tally : (l : List ℕ) (c d : Result Checked Refusal) (terms terms' sizes sizes' : List ℕ) → Tallies l c terms sizes → Tallies l d terms' sizes'
    → (c ≡ d) × ((k : Checked) → c ≡ Ok k → (r : ℕ) → r < 65 → (get_or terms r 0 ≡ get_or terms' r 0) × (get_or sizes r 0 ≡ get_or sizes' r 0))
one_tally l c d terms terms' sizes sizes' g h =
    let same : c ≡ d = one g.checked h.checked in (
      same,
      λ k z r b.
          let p = g.tallied k z in
          let q = h.tallied k (sym same ∙ z) in
          (one (p.number r b) (q.number r b), one (p.sum r b) (q.sum r b)),
    )
