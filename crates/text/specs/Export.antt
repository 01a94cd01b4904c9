-- A record as text: what `export` answers, and the whole output at its end.
use Rattle.std.specs.Prelude.{ℕ, leb, length}
use Rattle.modes.specs.Answers.{output_too_short}
use Rattle.modes.specs.Refusals.{need, or_else, unless}
use Rattle.lent.specs.Outputs.{Output, refused_output, filled_output}
use Rattle.record.specs.Operands.{Operand}
use Rattle.term_lines.specs.Written.{terms_text}

-- the record's refusal, and then 11 where the text of its terms is longer than the output
unfoldable pub export_of : ℕ → Operand → Output
export_of room a =
    let text = terms_text a.terms in
    unless (or_else a.refusal (need (leb (length text) room) output_too_short)) (refused_output room) (filled_output room 0 text)
