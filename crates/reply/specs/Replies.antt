-- What an input that holds two records, one after the other, is answered with: the record of their commutator, or the line of its refusal.
use Rattle.std.specs.Prelude.{◌≡◌, Bool, cond, ◌&&◌, List, ◌++◌, ℕ, ◌*◌, ◌-◌, Result, Ok, Err, leb, length, take, drop}
use Rattle.record.specs.Operands.{read_as}
use Rattle.modes.specs.declared.Reason.TheVariants.{Malformed}
use Rattle.modes.specs.declared.Refusal.{Refusal}
use Rattle.modes.specs.declared.Written.{Written}
use Rattle.modes.specs.Answers.{refusal}
use Rattle.lent.specs.Bytes.{zeros}
use Rattle.lent.specs.Outputs.{Output, refused_output}
use Rattle.record.specs.Layout.{total_of, record_length}
use Rattle.multiply.specs.Answers.{commutator_of}
use Rattle.reply.specs.Lines.{line_in}

-- the first record ends at its header's total, and the second is all that follows
abbrev pub first_of : List ℕ → List ℕ
first_of input = take (total_of input) input

abbrev pub second_of : List ℕ → List ℕ
second_of input = drop (total_of input) input

-- a whole header, and as many bytes as it says
unfoldable pub holds_first : List ℕ → Bool
holds_first input = leb 32 (length input) && leb (total_of input) (length input)

-- the commutator's answer, for a work of `work` and an output of `room` bytes; 1, operand 1, where the first record isn't there
unfoldable pub answer_to : ℕ → ℕ → List ℕ → Output
answer_to work room input =
    cond (holds_first input) (commutator_of work room (read_as 1 (first_of input)) (read_as 2 (second_of input))) (refused_output room (refusal Malformed 1 0))

-- an answer as text: the record that stands in the output, or the line of the refusal
abbrev pub told_in : ℕ → Result Written Refusal → List ℕ → List ℕ
told_in room (Ok w) bytes = take w.len bytes
told_in room (Err r) bytes = line_in room r

unfoldable pub text_of : ℕ → Output → List ℕ
text_of room o = told_in room o.answer o.bytes

-- the bytes for standard output
abbrev pub reply_to : ℕ → ℕ → List ℕ → List ℕ
reply_to work room input = text_of room (answer_to work room input)

-- the program's work: a row of 24 bytes for each of 2,730 branches
abbrev pub work_size : ℕ
work_size = 24 * 2730

-- the program's output, as long as the longest record, that of 2,048 terms
abbrev pub room_size : ℕ
room_size = record_length 2048

-- a length and a whole output of `room` bytes are those of a text: the text, and zeros past it
pub record Says (text : List ℕ) (room r : ℕ) (after : List ℕ) : Type 0 where
  pub len : r ≡ length text
  pub bytes : after ≡ text ++ zeros (room - length text)

-- and a work of `held` bytes is all zero
pub record Replies (text : List ℕ) (room r : ℕ) (after : List ℕ) (held : ℕ) (work : List ℕ) : Type 0 where
  pub says : Says text room r after
  pub clean : work ≡ zeros held
