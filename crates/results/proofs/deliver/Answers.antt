-- `results::deliver` meets its contract: refused by what was counted and weighed, or the record.
use mathlib.Core.Path.{refl, sym}
use native.Mathlib.Omega.{arith}
use lib.ListN.{length}
use Rattle.modes.specs.Answers.{none}
use Rattle.lent.specs.Rows.{rows_at}
use Rattle.lent.proofs.Outputs.{refused_gives}
use Rattle.record.proofs.Outputs.{refused_late, delivers, gives_as}
use Rattle.results.proofs.Results.{deliverable}
use Rattle.results.proofs.Delivering.{verdict_is}
use Rattle.results.proofs.deliver.Goals as goal

pub returns-in-Err : goal.returns-in-Err
returns-in-Err c =
    let judged = verdict_is (length c.args.out.now) c.args.work.now c.args.n _ c.weigh_rows-t.ensures _ c.in-Err.ensures in
    gives_as (refused_late (length c.args.out.now) c.args.branches none _ c.args.m (rows_at c.args.work.now 0 c.args.n) refl _ judged)
    (refused_gives _ c.refuse.ensures)

pub put_rows-requires : goal.put_rows-requires
put_rows-requires c =
    let room = deliverable _ _ _ (sym c.in_default.ensures) in
    (c.requires, room.long)

pub finish-requires : goal.finish-requires
finish-requires c =
    let room = deliverable _ _ _ (sym c.in_default.ensures) in
    (omega (arith, room.long, c.put_rows.auto.out), room.few)

pub returns : goal.returns
returns c =
    let s = c.args in
    let judged = verdict_is (length s.out.now) s.work.now s.n _ c.weigh_rows-t.ensures _ c.in_default.ensures in
    gives_as (delivers (length s.out.now) s.branches none _ s.m (rows_at s.work.now 0 s.n) refl _ judged)
    (rw (c.put_rows.auto.out, c.put_rows.ensures) at c.finish.ensures)
