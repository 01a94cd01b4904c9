-- The rows of all lines of a text at the front of the work. For inner functions only.
use Rattle.std.specs.Prelude.{◌≡◌, List, ℕ, ◌*◌, ◌^◌, ◌≤◌, length}
use Rattle.modes.specs.declared.Term.{Term}
use Rattle.modes.specs.Answers.{none}
use Rattle.modes.specs.Sums.{amount_of, list_of}
use Rattle.lent.specs.Rows.{rows_at}
use Rattle.lines.specs.Grammar.{lines_of}
use Rattle.lines.specs.Refusals.{text_refusal}
use Rattle.expand.specs.Rows.{rows_of}
use Rattle.scan.specs.Sums.{spread, burden}

-- a text whose lines can be multiplied out in a work of `room` bytes
pub record Readable (text : List ℕ) (room : ℕ) : Type 0 where
  pub fine : text_refusal 64 text ≡ none
  pub light : amount_of burden (lines_of text) ≤ 2 ^ 60
  pub fits : 24 * amount_of spread (lines_of text) ≤ room

-- all rows of a text
abbrev pub text_rows : List ℕ → List Term
text_rows text = list_of rows_of (lines_of text)

-- they stand at the front of l, and end at `end`
pub record Gathered (text l : List ℕ) (end : ℕ) : Type 0 where
  pub ends : end ≡ 24 * length (text_rows text)
  pub rows : rows_at l 0 (length (text_rows text)) ≡ text_rows text
