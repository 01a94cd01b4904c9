-- `integers::product` meets its contract: the product stays in range.
use Rattle.integers.proofs.SignedNumbers.{product_fits}
use mir.Facts.{to_z-of_z}
use Rattle.integers.proofs.product.Goals as goal

pub overflow_mul-result : goal.overflow_mul-result
overflow_mul-result c = rw (to_z-of_z c.ranges.x, to_z-of_z c.ranges.y) (product_fits c.args.x c.args.y c.requires)

pub returns : goal.returns
returns c = rw (to_z-of_z c.ranges.x, to_z-of_z c.ranges.y) (to_z-of_z (product_fits c.args.x c.args.y c.requires))
