-- A count of terms, with their weight as far as the ceiling. For inner functions only.
use Rattle.std.specs.Prelude.{◌≡◌, ◌^◌, ◌≤◌, ◌<◌, List, length}
use Rattle.modes.specs.declared.Term.{Term}
use Rattle.record.specs.Terms.{weight}
use Rattle.results.specs.declared.Tally.{Tally}

pub record Tallied (ts : List Term) (r : Tally) : Type 0 where
  pub terms : r.terms ≡ length ts
  pub light : r.weight ≤ 2 ^ 60 → r.weight ≡ weight ts
  pub heavy : 2 ^ 60 < r.weight → 2 ^ 60 < weight ts
