-- `text_reply::import_reply` meets its contract: the import, at the program's sizes.
use mathlib.Core.Path.{sym}
use Prim.Native.Nat.{ℕ}
use lib.ListN.{length-replicate}
use Rattle.reply.proofs.Replies.{at_sizes}
use Rattle.text_reply.specs.TextReplies.{import_reply, import_work}
use Rattle.text_reply.proofs.import_reply.Goals as goal

pub slice_bounds-import-end : goal.slice_bounds-import-end
slice_bounds-import-end c = sym (length-replicate {A = ℕ} import_work 0)

pub returns : goal.returns
returns c =
    at_sizes (λ (work room : ℕ). import_reply work room c.args.word.now c.args.text.now) c.import.ensures.says
    (length-replicate {A = ℕ} import_work 0) c.told-out
