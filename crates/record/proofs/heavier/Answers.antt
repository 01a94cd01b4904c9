-- `record::heavier` meets its contract.
use Prim.Native.Nat.{◌^◌}
use native.Mathlib.Omega.{arith}
use borrow.Author.Tests.{le-leb, lt-leb}
use Rattle.record.specs.Weights.{heavier_by}
use Rattle.record.proofs.heavier.Goals as goal

pub returns-then-w-le-HEAVIEST : goal.returns-then-w-le-HEAVIEST
unfolding heavier_by
returns-then-w-le-HEAVIEST c = simp (le-leb c.args.w (2 ^ 60) (omega arith))

pub returns-else-w-le-HEAVIEST : goal.returns-else-w-le-HEAVIEST
unfolding heavier_by
returns-else-w-le-HEAVIEST c = simp (lt-leb c.args.w (2 ^ 60) (omega arith))
