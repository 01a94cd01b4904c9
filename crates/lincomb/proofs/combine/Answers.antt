-- `lincomb::combine` meets its contract: each way out gives what the definition says.
use Rattle.lent.proofs.Outputs.{refused_gives}
use Rattle.record.proofs.Outputs.{gives_as}
use Rattle.lincomb.proofs.Sums.{pair_refused, both_held, both_light, result_refused, room_enough, result_delivered}
use Rattle.lincomb.proofs.combine.Goals as goal

pub returns-in-Err : goal.returns-in-Err
returns-in-Err c = let s = c.args in gives_as (pair_refused s.sign.0 _ _ s.out.now _ c.in-Err.ensures) (refused_gives _ c.refuse.ensures)

pub of-left-requires : goal.of-left-requires
of-left-requires c = (both_held _ _ _ c.in-Ok.ensures).0

pub of-right-requires : goal.of-right-requires
of-right-requires c = (both_held _ _ _ c.in-Ok.ensures).1

pub count_terms-t-requires : goal.count_terms-t-requires
count_terms-t-requires c = both_light _ _ _ c.in-Ok.ensures _ _ c.of-left.ensures c.of-right.ensures

pub returns-in-Err-verdict : goal.returns-in-Err-verdict
returns-in-Err-verdict c =
    let s = c.args in
    gives_as
    (result_refused s.sign.0 _ _ s.out.now _ c.in-Ok.ensures _ _ c.of-left.ensures c.of-right.ensures _ c.count_terms-t.ensures _ c.in-Err-verdict.ensures)
    (refused_gives _ c.refuse-in-Err-verdict.ensures)

pub write_sum-requires : goal.write_sum-requires
write_sum-requires c =
    let s = c.args in
    let f = room_enough s.sign.0 _ _ s.out.now _ c.in-Ok.ensures _ _ c.of-left.ensures c.of-right.ensures _ c.count_terms-t.ensures _ c.in_default.ensures in
    record {
      light = both_light _ _ _ c.in-Ok.ensures _ _ c.of-left.ensures c.of-right.ensures;
      fits = (c.count_terms-t.ensures.terms, f.long, f.few);
    }

pub returns : goal.returns
returns c =
    let s = c.args in
    gives_as
    (result_delivered s.sign.0 _ _ s.out.now _ c.in-Ok.ensures _ _ c.of-left.ensures c.of-right.ensures _ c.count_terms-t.ensures _ c.in_default.ensures)
    c.write_sum.ensures
