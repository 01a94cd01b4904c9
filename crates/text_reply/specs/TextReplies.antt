-- What the two programs of ladder text answer: the record of a text, or the text of a record, or the line of the refusal.
use Rattle.std.specs.Prelude.{cond, List, ℕ, ◌*◌, leb, length}
use Rattle.modes.specs.Answers.{rows_do_not_fit}
use Rattle.lent.specs.Outputs.{Output, refused_output}
use Rattle.decimals.specs.Decimal.{read_on}
use Rattle.decimals.specs.Numbers.{is_number}
use Rattle.record.specs.Layout.{record_length}
use Rattle.record.specs.Operands.{read_as}
use Rattle.text.specs.Import.{import_of}
use Rattle.text.specs.Export.{export_of}
use Rattle.reply.specs.Replies.{text_of}

-- the mode count that a word names: 0, which no record has, where it is no number
unfoldable pub modes_in : List ℕ → ℕ
modes_in word = cond (is_number word) (read_on 0 word) 0

-- no export is longer
abbrev pub longest_text : ℕ
longest_text = 1048576

-- a longer text is refused with 7, before anything else is looked at
unfoldable pub import_answer : ℕ → ℕ → List ℕ → List ℕ → Output
import_answer work room word text = cond (leb (length text) longest_text) (import_of (modes_in word) work room text) (refused_output room rows_do_not_fit)

-- the bytes for standard output
abbrev pub import_reply : ℕ → ℕ → List ℕ → List ℕ → List ℕ
import_reply work room word text = text_of room (import_answer work room word text)

abbrev pub export_reply : ℕ → List ℕ → List ℕ
export_reply room a = text_of room (export_of room (read_as 1 a))

-- the programs' sizes: 48 bytes for each of 65,536 parts of lines, the longest record, and the longest text
abbrev pub import_work : ℕ
import_work = 48 * 65536

abbrev pub import_room : ℕ
import_room = record_length 2048

abbrev pub export_room : ℕ
export_room = longest_text
