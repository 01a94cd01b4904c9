-- `text::export` meets its contract: refused by the check, or refused where the lines do not fit, or the lines and zeros past them.
use lib.ListN.{length}
use Rattle.lent.proofs.Outputs.{refused_gives}
use Rattle.record.proofs.Accepted.{accepted}
use Rattle.record.proofs.Outputs.{gives_as}
use Rattle.text.proofs.Exports.{export_refused, unplaced_refused, placed_filled}
use Rattle.text.proofs.export.Goals as goal

pub returns-in-Err : goal.returns-in-Err
returns-in-Err c =
    gives_as (export_refused (length c.args.out.now) c.args.a.now _ c.in-Err.ensures) (refused_gives _ c.refuse.ensures)

pub of-terms-requires : goal.of-terms-requires
of-terms-requires c = (accepted 1 c.args.a.now _ c.in-Ok.ensures).held.size

pub returns-in_default : goal.returns-in_default
returns-in_default c =
    gives_as (unplaced_refused c.args.out.now c.args.a.now _ c.in-Ok.ensures c.place_lines.new.out (rw c.of-terms.ensures at c.in_default.ensures))
    (refused_gives _ (rw c.place_lines.auto.out at c.refuse-in_default.ensures))

pub returns : goal.returns
returns c =
    placed_filled c.args.out.now c.args.a.now _ c.in-Ok.ensures _ _ (rw c.of-terms.ensures at c.in-Some.ensures) c.place_lines.auto.out _
    c.wipe_from.ensures
