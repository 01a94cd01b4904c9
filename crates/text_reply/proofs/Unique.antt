-- No two lengths, outputs or works meet a promise of this crate.
use mathlib.Core.Path.{◌≡◌}
use mathlib.Core.List.{List}
use Prim.Native.Nat.{ℕ}
use Rattle.reply.specs.Replies.{Says, Replies}
use Rattle.reply.proofs.Unique.{one_text, one_reply}
use Rattle.text_reply.specs.TextReplies.{import_reply, export_reply}

-- of the text of a record, as `export` promises it
pub one_export_reply : (room : ℕ) (a : List ℕ) (r s : ℕ) (x y : List ℕ) → Says (export_reply room a) room r x
    → Says (export_reply room a) room s y → (r ≡ s) × (x ≡ y)
one_export_reply room a = one_text (export_reply room a) room

-- of the record of a text, and of the work that `import` is lent
pub one_import_reply : (work room : ℕ) (word text : List ℕ) (r s : ℕ) (x y w v : List ℕ) → Replies (import_reply work room word text) room r x work w
    → Replies (import_reply work room word text) room s y work v → (r ≡ s) × (x ≡ y) × (w ≡ v)
one_import_reply work room word text = one_reply (import_reply work room word text) room work
