-- `text_reply::export` meets its contract: the text as it stands, or the line of the refusal.
use lib.ListN.{length}
use Rattle.record.specs.Operands.{read_as}
use Rattle.reply.proofs.Lines.{refusal_told}
use Rattle.reply.proofs.Replies.{record_told, line_told}
use Rattle.text_reply.proofs.TextReplies.{export_shape}
use Rattle.text_reply.proofs.export.Goals as goal

pub returns-in-Ok : goal.returns-in-Ok
returns-in-Ok c = record_told (export_shape (length c.args.out.now) (read_as 1 c.args.a.now)) c.in-Ok.ensures

pub returns-in-Err : goal.returns-in-Err
returns-in-Err c = line_told c.export.auto.out c.in-Err.ensures (refusal_told _ c.number.ensures c.tell.ensures)
