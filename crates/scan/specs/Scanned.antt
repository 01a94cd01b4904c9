-- What is found of a text: its first refusal, or the two sums over its lines, as far as one above 2^60. For inner functions only.
use Rattle.std.specs.Prelude.{List, ℕ, Result}
use Rattle.modes.specs.declared.Refusal.{Refusal}
use Rattle.modes.specs.Refusals.{answered}
use Rattle.modes.specs.Sums.{amount_of}
use Rattle.decimals.specs.Ceiling.{up_to}
use Rattle.lines.specs.Grammar.{lines_of}
use Rattle.lines.specs.Refusals.{text_refusal}
use Rattle.scan.specs.Sums.{spread, burden}
use Rattle.scan.specs.declared.Sums.{Sums}

abbrev pub summed_text : List ℕ → Sums
summed_text text = record { burden = up_to (amount_of burden (lines_of text)); spread = up_to (amount_of spread (lines_of text)) }

abbrev pub scanned_of : ℕ → List ℕ → Result Sums Refusal
scanned_of m text = answered (text_refusal m text) (summed_text text)
