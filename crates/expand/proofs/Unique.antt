-- No two works or ends meet a promise of this crate.
use mathlib.Core.Path.{◌≡◌}
use mathlib.Core.List.{List}
use Prim.Native.Nat.{ℕ}
use Rattle.modes.specs.declared.Term.{Term}
use Rattle.products.proofs.Unique.{one_rows}
use Rattle.expand.specs.Writing.{Wrote}

-- of the rows of a term with ladders, and of those of a line
pub one_writing : (before : List ℕ) (used : ℕ) (ts : List Term) (r s : ℕ) (x y : List ℕ) → Wrote before used ts r x → Wrote before used ts s y
    → (r ≡ s) × (x ≡ y)
one_writing before used ts r s x y = one_rows before used _ ts r s x y
