-- `fermion::in_rows` meets its contract. The invariant: the first `i` rows are copied.
use Rattle.fermion.proofs.InRows.{laid_none, laid_more, laid_all}
use Rattle.fermion.proofs.in_rows.Goals as goal

pub loop-i-init : goal.loop-i-init
loop-i-init c = laid_none c.args.rows

pub loop-i-preserved : goal.loop-i-preserved
loop-i-preserved c =
    laid_more c.args.rows c.requires c.loop-i.i c.loop-i.m c.loop-i.invariant c.loop-i-test.true _ c.put_row.ensures

pub returns : goal.returns
returns c = laid_all c.args.rows c.requires c.loop-i.i c.loop-i.m c.loop-i.invariant c.loop-i-test.false c.loop-i.auto.i-end
