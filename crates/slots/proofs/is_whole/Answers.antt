-- `slots::is_whole` meets its contract: the entries so far are right.
use native.Mathlib.Omega.{arith}
use Rattle.std.proofs.lemmas.Grind.{common_steps}
use Rattle.slots.proofs.Wholes.{each_none}
use Rattle.slots.proofs.Judging.{all_right, right_next, one_wrong}
use Rattle.slots.proofs.is_whole.Goals as goal

pub loop-i-init : goal.loop-i-init
loop-i-init c = each_none _

pub returns-then-not-is_right : goal.returns-then-not-is_right
returns-then-not-is_right c = one_wrong _ c.loop-i.i c.loop-i-test.true (grind (arith, common_steps))

pub loop-i-preserved : goal.loop-i-preserved
loop-i-preserved c = right_next _ _ c.loop-i.invariant (grind (arith, common_steps))

pub returns : goal.returns
returns c = grind (arith, common_steps, all_right c.args.h.now)
