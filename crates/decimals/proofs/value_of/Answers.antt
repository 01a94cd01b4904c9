-- `decimals::value_of` meets its contract. The invariant: what is read of the bytes so far, and those to come, make the number.
use Rattle.decimals.proofs.Numbers.{reading_goes, reading_ends}
use Rattle.decimals.proofs.value_of.Goals as goal

pub loop-b-preserved : goal.loop-b-preserved
loop-b-preserved c = reading_goes _ _ _ c.loop-b.invariant c.loop-b-test.true _ c.with_byte-made.ensures.0

pub returns : goal.returns
returns c = reading_ends _ _ _ c.loop-b.invariant c.loop-b-test.false
