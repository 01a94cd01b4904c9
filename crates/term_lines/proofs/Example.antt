-- The example record, that of case 14, as text.
use mathlib.Core.Path.{◌≡◌, refl, ap, ◌∙◌}
use mathlib.Core.List.{[], ◌∷◌}
use Rattle.modes.specs.Words.{bit}
use Rattle.modes.specs.Sums.{sum_by}
use Rattle.decimals.specs.Decimal.{digits, decimal}
use Rattle.record.specs.Layout.{terms_of}
use Rattle.record.specs.Example.{example}
use Rattle.record.proofs.Example.{example_read}
use Rattle.term_lines.specs.Written.{modes_text, term_text, terms_text}

-- `1 0^ 0_` and `-1 1^ 1_`, each ended by a line feed
pub example_text : terms_text (terms_of example) ≡ 49 ∷ 32 ∷ 48 ∷ 94 ∷ 32 ∷ 48 ∷ 95 ∷ 10 ∷ 45 ∷ 49 ∷ 32 ∷ 49 ∷ 94 ∷ 32 ∷ 49 ∷ 95 ∷ 10 ∷ []
unfolding bit sum_by digits decimal modes_text term_text
example_text = ap terms_text example_read ∙ refl
