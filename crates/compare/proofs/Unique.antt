-- No two answers meet the promise of `compare`.
use mathlib.Core.Path.{◌≡◌}
use mathlib.Core.List.{List}
use Prim.Native.Nat.{ℕ}
use Rattle.record.specs.Operands.{read_as}
use Rattle.modes.proofs.Unique.{one}
use Rattle.compare.specs.Comparison.{compared_of}
use Rattle.std.specs.Prelude.{Option, Result}
use Rattle.modes.specs.declared.Refusal.{Refusal}
use Rattle.compare.specs.declared.Difference.{Difference}

pub one_comparison : (a b : List ℕ) (r s : Result (Option Difference) Refusal) → r ≡ compared_of (read_as 1 a) (read_as 2 b)
    → s ≡ compared_of (read_as 1 a) (read_as 2 b) → r ≡ s
one_comparison a b r s = one
