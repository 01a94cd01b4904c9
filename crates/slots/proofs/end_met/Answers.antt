-- `slots::end_met` meets its contract: the records of the slots so far are not met.
use borrow.Author.Rules.{rules}
use Rattle.slots.proofs.Judging.{none_met_yet, one_more_apart}
use Rattle.slots.proofs.end_met.Goals as goal

pub loop-i-init : goal.loop-i-init
loop-i-init c = none_met_yet _ _ _

pub loop-i-preserved : goal.loop-i-preserved
loop-i-preserved c = one_more_apart _ _ _ _ c.loop-i.invariant (search rules)
