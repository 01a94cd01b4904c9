-- `reply::holds_first` meets its contract.
use mathlib.Core.Path.{ap, ◌∙◌}
use Prim.Native.Nat.{ℕ}
use lib.Dec.{leb}
use lib.ListN.{length}
use Rattle.reply.proofs.Replies.{no_header, total_decides}
use Rattle.reply.proofs.holds_first.Goals as goal

pub returns-then-input-lt-HEADER : goal.returns-then-input-lt-HEADER
returns-then-input-lt-HEADER c = no_header c.args.input.now c.if-input-lt-HEADER.true

pub returns : goal.returns
returns c =
    let input = c.args.input.now in
    ap (λ (total : ℕ). leb total (length input)) c.total.ensures.0 ∙ total_decides input c.if-input-lt-HEADER.false
