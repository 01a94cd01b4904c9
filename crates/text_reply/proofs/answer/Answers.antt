-- `text_reply::answer` meets its contract: the text to `text::import`, or the refusal of its length.
use lib.ListN.{length}
use Rattle.reply.proofs.Replies.{leaves_as, refused_leaves}
use Rattle.text_reply.proofs.TextReplies.{long_refused, short_imported}
use Rattle.text_reply.proofs.answer.Goals as goal

pub returns-then-text-gt-LONGEST_TEXT : goal.returns-then-text-gt-LONGEST_TEXT
returns-then-text-gt-LONGEST_TEXT c =
    leaves_as (long_refused (length c.args.work.now) (length c.args.out.now) c.args.word.now c.args.text.now c.if-text-gt-LONGEST_TEXT.true)
    (refused_leaves _ _ c.refuse.ensures)

pub returns : goal.returns
returns c =
    leaves_as (short_imported (length c.args.work.now) (length c.args.out.now) c.args.word.now c.args.text.now _
    c.modes_in.ensures c.if-text-gt-LONGEST_TEXT.false) c.import.ensures
