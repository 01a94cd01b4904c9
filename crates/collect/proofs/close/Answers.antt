-- `collect::close` meets its contract: the row is dropped, or stored behind those that are done.
use Rattle.collect.proofs.Closing.{closed_stored}
use Rattle.collect.proofs.close.Goals as goal

pub returns : goal.returns
returns c =
    closed_stored c.args.place c.args.row c.args.work.now c.put_row.new.s c.requires.0 c.requires.1
    c.if-row-eq0.false c.put_row.ensures
