-- `results::weigh_rows` meets its contract: what is weighed, with what is left, makes the whole.
use native.Mathlib.Omega.{arith}
use Rattle.results.proofs.Delivering.{weighing_starts, weighing_goes, weighing_ends}
use Rattle.results.proofs.weigh_rows.Goals as goal

pub loop-i-init : goal.loop-i-init
loop-i-init c = weighing_starts _ _

pub loop-i-preserved : goal.loop-i-preserved
loop-i-preserved c =
    let v = c.loop-i in
    weighing_goes c.args.work.now _ _ v.i _ _ _ v.invariant (omega (arith, c.loop-i-test)) c.get_row.ensures.0 c.size.ensures.0 c.heavier-w.ensures

pub returns : goal.returns
returns c = let v = c.loop-i in weighing_ends c.args.work.now _ _ v.i v.invariant (omega arith)
