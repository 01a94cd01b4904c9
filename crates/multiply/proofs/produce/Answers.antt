-- `multiply::produce` meets its contract: each way out gives what the definition says.
use lib.ListN.{length}
use Rattle.std.specs.Prelude.{is_some}
use Rattle.lent.proofs.Outputs.{refused_gives}
use Rattle.record.proofs.Outputs.{gives_as}
use Rattle.pairs.specs.Products.{minus_of}
use Rattle.multiply.proofs.Answering.{pair_refused, heavy_refused, left_size, right_size, weights_light, too_many, collect_room, collect_light, delivered}
use Rattle.multiply.proofs.produce.Goals as goal

pub returns-in-Err : goal.returns-in-Err
returns-in-Err c = gives_as (pair_refused _ _ _ _ _ _ _ c.in-Err.ensures) (refused_gives _ c.refuse.ensures)

pub returns-in-Err-weight_refusal : goal.returns-in-Err-weight_refusal
returns-in-Err-weight_refusal c =
    gives_as (heavy_refused _ _ _ _ _ _ _ c.in-Ok.ensures _ c.in-Err-weight_refusal.ensures)
    (refused_gives _ c.refuse-in-Err-weight_refusal.ensures)

pub of-left-requires : goal.of-left-requires
of-left-requires c =
    let s = c.args in
    left_size (is_some s.other) (minus_of s.other) s.a.now s.b.now (length s.work.now) (length s.out.now) _ c.in-Ok.ensures _ c.in_default.ensures

pub of-right-requires : goal.of-right-requires
of-right-requires c =
    let s = c.args in
    right_size (is_some s.other) (minus_of s.other) s.a.now s.b.now (length s.work.now) (length s.out.now) _ c.in-Ok.ensures _ c.in_default.ensures

pub append_all-s-requires : goal.append_all-s-requires
append_all-s-requires c =
    let s = c.args in
    rw (c.of-left.ensures, c.of-right.ensures) (weights_light (is_some s.other) (minus_of s.other) s.a.now s.b.now
    (length s.work.now) (length s.out.now) _ c.in-Ok.ensures _ c.in_default.ensures)

pub returns-then-work-s : goal.returns-then-work-s
returns-then-work-s c =
    let grown = c.append_all-s in
    let rows = rw (c.of-left.ensures, c.of-right.ensures) at grown.ensures in
    gives_as (too_many _ _ _ _ _ _ _ c.in-Ok.ensures _ c.in_default.ensures _ grown.auto.work _ rows c.if-work-s.true)
    (refused_gives _ c.refuse-then-work-s.ensures)

pub collect-n-requires : goal.collect-n-requires
collect-n-requires c =
    let grown = c.append_all-s in
    let rows = rw (c.of-left.ensures, c.of-right.ensures) at grown.ensures in (
      collect_room _ _ _ _ _ (length c.args.out.now) _ c.in-Ok.ensures _ c.in_default.ensures _ grown.auto.work _ rows c.if-work-s.false,
      collect_light _ _ _ _ _ (length c.args.out.now) _ c.in-Ok.ensures _ c.in_default.ensures _ grown.auto.work _ rows c.if-work-s.false,
    )

pub returns : goal.returns
returns c =
    let grown = c.append_all-s in
    let rows = rw (c.of-left.ensures, c.of-right.ensures) at grown.ensures in
    gives_as (delivered _ _ _ _ _ _ _ c.in-Ok.ensures _ c.in_default.ensures _ grown.auto.work _ rows c.if-work-s.false _ _ c.collect-n.ensures)
    c.deliver.ensures
