-- `decimals::read_number` meets its contract. The invariant: what is read of the bytes so far, and those to come, make the number.
use borrow.Author.Rules.{rules}
use Rattle.decimals.proofs.Numbers.{reading_goes, reading_ends, good_goes, no_number, all_read}
use Rattle.decimals.proofs.read_number.Goals as goal

pub returns-then-not-is_ascii_digit : goal.returns-then-not-is_ascii_digit
returns-then-not-is_ascii_digit c = no_number _ _ c.loop-b.invariant.good c.loop-b-test.true (search rules)

pub loop-b-preserved : goal.loop-b-preserved
loop-b-preserved c = record {
  read = reading_goes _ _ _ c.loop-b.invariant.read c.loop-b-test.true _ c.with_byte-value.ensures.0;
  good = good_goes _ _ c.loop-b.invariant.good c.loop-b-test.true (search rules);
}

pub returns : goal.returns
returns c = all_read _ _ c.loop-b.invariant.good c.loop-b-test.false (reading_ends _ _ _ c.loop-b.invariant.read c.loop-b-test.false)
