-- The answers to a text and to a record, case by case.
use mathlib.Core.Path.{◌≡◌}
use mathlib.Core.List.{List}
use Prim.Native.Nat.{ℕ, ◌≤◌, ◌<◌}
use lib.Dec.{leb}
use lib.ListN.{length}
use borrow.Author.Tests.{le-leb, lt-leb}
use Rattle.modes.specs.Answers.{rows_do_not_fit}
use Rattle.modes.specs.Sums.{list_of}
use Rattle.lent.specs.Outputs.{refused_output}
use Rattle.decimals.specs.Ceiling.{up_to}
use Rattle.record.specs.Layout.{encode}
use Rattle.record.specs.Operands.{Operand}
use Rattle.normal.specs.Normal.{normal}
use Rattle.lines.specs.Grammar.{lines_of}
use Rattle.expand.specs.Rows.{rows_of}
use Rattle.term_lines.specs.Written.{terms_text}
use Rattle.text.specs.Import.{import_of}
use Rattle.text.specs.Export.{export_of}
use Rattle.text.proofs.Bringing.{modes_capped}
use Rattle.reply.proofs.Replies.{Shape, filling, unless_shape, tested_shape}
use Rattle.text_reply.specs.TextReplies.{modes_in, longest_text, import_answer}

module _ (work room : ℕ) (word text : List ℕ) where
  pub long_refused : longest_text < length text → refused_output room rows_do_not_fit ≡ import_answer work room word text
  unfolding import_answer
  long_refused h = rw (lt-leb (length text) longest_text h)

  pub short_imported : (m : ℕ) → m ≡ up_to (modes_in word) → length text ≤ longest_text → import_of m work room text ≡ import_answer work room word text
  unfolding import_answer
  short_imported m e h = rw (le-leb (length text) longest_text h, e) (modes_capped (modes_in word) work room text)

  pub import_shape : Shape room (import_answer work room word text)
  unfolding import_answer
  import_shape =
      tested_shape (leb (length text) longest_text) (import_of (modes_in word) work room text) rows_do_not_fit
      (unless_shape _ (filling _ (encode (modes_in word) (normal (list_of rows_of (lines_of text))))))

pub export_shape : (room : ℕ) (a : Operand) → Shape room (export_of room a)
unfolding export_of
export_shape room a = unless_shape _ (filling _ (terms_text a.terms))
