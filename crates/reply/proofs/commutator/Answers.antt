-- `reply::commutator` meets its contract: the record as it stands, or the line of the refusal.
use lib.ListN.{length}
use Rattle.reply.proofs.Lines.{refusal_told}
use Rattle.reply.proofs.Replies.{answer_shape, record_told, line_told}
use Rattle.reply.proofs.commutator.Goals as goal

pub returns-in-Ok : goal.returns-in-Ok
returns-in-Ok c =
    let made = c.in-Ok.ensures in
    record {
      says = record_told (answer_shape (length c.args.work.now) (length c.args.out.now) c.args.input.now) made.output;
      clean = made.clean;
    }

pub returns-in-Err : goal.returns-in-Err
returns-in-Err c =
    let made = c.in-Err.ensures in
    record { says = line_told c.answer.auto.out made.output (refusal_told _ c.number.ensures c.tell.ensures); clean = made.clean }
