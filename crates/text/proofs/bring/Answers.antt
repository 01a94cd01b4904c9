-- `text::bring` meets its contract: each way out gives what the definition says.
use mathlib.Core.Path.{sym}
use native.Mathlib.Omega.{arith}
use lib.ListN.{length}
use Rattle.lent.proofs.Outputs.{refused_gives}
use Rattle.record.proofs.Outputs.{gives_as}
use Rattle.text.proofs.Bringing.{early_refused, readable, collectable, delivered}
use Rattle.text.proofs.bring.Goals as goal

pub returns-in-Err : goal.returns-in-Err
returns-in-Err c =
    gives_as (early_refused c.args.m (length c.args.work.now) (length c.args.out.now) c.args.text.now _ c.in-Err.ensures)
    (refused_gives _ c.refuse.ensures)

pub gather-used-requires : goal.gather-used-requires
gather-used-requires c =
    readable c.args.m (length c.args.work.now) c.args.text.now (sym c.in_default.ensures)

pub collect-n-requires : goal.collect-n-requires
collect-n-requires c =
    let rows = c.gather-used in
    collectable c.args.m (length c.args.work.now) c.args.text.now (sym c.in_default.ensures) _ rows.auto.work _ rows.ensures

pub deliver-requires : goal.deliver-requires
deliver-requires c =
    let rows = c.gather-used in
    let room =
    collectable c.args.m (length c.args.work.now) c.args.text.now (sym c.in_default.ensures) _ rows.auto.work _ rows.ensures in
    omega (arith, c.collect-n.ensures.count, c.collect-n.auto.work, room.0)

pub returns : goal.returns
returns c =
    let rows = c.gather-used in
    gives_as
    (delivered c.args.m (length c.args.work.now) c.args.text.now (sym c.in_default.ensures) _ rows.auto.work _ rows.ensures
    (length c.args.out.now) _ _ c.collect-n.ensures) c.deliver.ensures
