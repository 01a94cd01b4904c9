-- `integers::negated` meets its contract: the negation stays in range.
use Rattle.integers.proofs.SignedNumbers.{neg_fits}
use lib.IntN.{+ℤ_idl}
use mir.Facts.{to_z-of_z}
use Rattle.integers.proofs.negated.Goals as goal

pub overflow_sub-result : goal.overflow_sub-result
overflow_sub-result c = rw (to_z-of_z c.ranges.x, +ℤ_idl) (neg_fits c.args.x c.requires)

pub returns : goal.returns
returns c = rw (to_z-of_z c.ranges.x, +ℤ_idl) (to_z-of_z (neg_fits c.args.x c.requires))
