-- `modes::lowest_mode` meets its contract: the machine counts the zeros that a word ends with.
use native.Mathlib.Omega.{arith}
use lib.Count.{trailing_le}
use Rattle.modes.proofs.LowestMode.{trailing_lowest}
use Rattle.modes.proofs.lowest_mode.Goals as goal

pub overflow_cast-result : goal.overflow_cast-result
overflow_cast-result c = record { fits = omega (arith, trailing_le 64 c.args.word) }

pub returns : goal.returns
returns c = trailing_lowest 64 c.args.word
