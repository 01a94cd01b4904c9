-- `slots::meets_none` meets its contract: the records of the slots so far are not met.
use borrow.Author.Rules.{rules}
use Rattle.slots.proofs.Judging.{none_met_yet, one_more_apart, one_met}
use Rattle.slots.proofs.meets_none.Goals as goal

pub loop-i-init : goal.loop-i-init
loop-i-init c = none_met_yet _ _ _

pub returns-then-not-are_apart : goal.returns-then-not-are_apart
returns-then-not-are_apart c = one_met _ _ _ _ _ c.loop-i-test.true (search rules)

pub loop-i-preserved : goal.loop-i-preserved
loop-i-preserved c = one_more_apart _ _ _ _ c.loop-i.invariant (search rules)
