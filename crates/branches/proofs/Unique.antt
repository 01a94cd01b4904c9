-- No two answers meet the promise of `branches`.
use mathlib.Core.Path.{◌≡◌}
use mathlib.Core.List.{List}
use Prim.Native.Nat.{ℕ}
use Rattle.record.specs.Operands.{read_as}
use Rattle.std.specs.Prelude.{Result}
use Rattle.modes.specs.declared.Refusal.{Refusal}
use Rattle.modes.proofs.Unique.{one}
use Rattle.branches.specs.Branches.{branches_told}
use Rattle.branches.specs.declared.BranchCounts.{BranchCounts}

pub one_counting : (a b : List ℕ) (r s : Result BranchCounts Refusal) → r ≡ branches_told (read_as 1 a) (read_as 2 b) → s ≡ branches_told (read_as 1 a) (read_as 2 b) → r ≡ s
one_counting a b r s = one
