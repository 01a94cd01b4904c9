-- `collect::join` meets its contract: at every row the rows done and the one in hand make what the rows read make.
use Rattle.collect.proofs.Joining.{joining_from, joining_on, row_room, meet_light, joined_none, joined_all}
use Rattle.collect.proofs.join.Goals as goal

pub returns-then-n-eq0 : goal.returns-then-n-eq0
returns-then-n-eq0 c = joined_none c.args.n c.args.work.now c.if-n-eq0.true

pub loop-i-init : goal.loop-i-init
loop-i-init c =
    joining_from c.args.n c.args.work.now c.get_row-row.result c.if-n-eq0.false c.requires.1 c.get_row-row.ensures.0 c.get_row-row.ensures.1

pub meet-o-requires : goal.meet-o-requires
meet-o-requires c =
    let p = c.loop-i in
    let more = c.loop-i-test.true in (
      p.invariant.under,
      row_room c.args.n p.i c.args.work.now p.work p.o.place p.o.row p.invariant more c.requires.0,
      p.invariant.hand.own,
      meet_light c.args.n p.i c.args.work.now p.work p.o.place p.o.row p.invariant more c.requires.2,
    )

pub loop-i-preserved : goal.loop-i-preserved
loop-i-preserved c =
    let p = c.loop-i in
    let w = c.meet-o in
    joining_on c.args.n p.i c.args.work.now p.work p.o.place p.o.row p.invariant c.loop-i-test.true c.requires.1 c.requires.2
    w.new.work w.result.place w.result.row w.ensures

pub returns : goal.returns
returns c =
    let p = c.loop-i in
    let w = c.close in
    joined_all c.args.n p.i c.args.work.now p.work w.new.work p.o.place w.result p.o.row p.invariant
    c.loop-i-test.false w.ensures
