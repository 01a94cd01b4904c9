-- `integers::sum` meets its contract: the sum stays in range.
use Rattle.integers.proofs.SignedNumbers.{sum_fits}
use mir.Facts.{to_z-of_z}
use Rattle.integers.proofs.sum.Goals as goal

pub overflow_add-result : goal.overflow_add-result
overflow_add-result c = rw (to_z-of_z c.ranges.x, to_z-of_z c.ranges.y) (sum_fits c.args.x c.args.y c.requires)

pub returns : goal.returns
returns c = rw (to_z-of_z c.ranges.x, to_z-of_z c.ranges.y) (to_z-of_z (sum_fits c.args.x c.args.y c.requires))
