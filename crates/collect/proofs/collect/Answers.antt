-- `collect::collect` meets its contract: the sort keeps what the rows make, and puts like ones side by side.
use Rattle.collect.proofs.Sorting.{sorted_fit, collected}
use Rattle.collect.proofs.collect.Goals as goal

pub join-requires : goal.join-requires
join-requires c =
    let r = c.rows-places in
    let w = c.sort in
    sorted_fit c.args.n c.args.work.now w.new.s r.result r.ensures w.ensures c.requires.0 c.requires.1

pub returns : goal.returns
returns c =
    let r = c.rows-places in
    let w = c.sort in
    let j = c.join in
    collected c.args.n c.args.work.now w.new.s r.result r.ensures w.ensures j.new.work j.result j.ensures
