-- What a line means: its ladders act on a word one by one, the rightmost first, by the phase rule.
use Rattle.std.specs.Prelude.{false, List, [], ◌∷◌, ℕ, ℤ}
use Rattle.modes.specs.Sums.{sum_of}
use Rattle.products.specs.PhaseRule.{Outcome, went, ladder}
use Rattle.products.specs.Operators.{adds}
use Rattle.lines.specs.Grammar.{Ladder, Line}

-- ladders on an outcome: the rightmost acts first
unfoldable pub ladders_on : List Ladder → Outcome → Outcome
ladders_on [] o = o
ladders_on (x ∷ xs) o = ladder x.needs x.mode (ladders_on xs o)

-- what a line adds at (bra, ket): its coefficient with the sign, where its ladders take ket to bra
abbrev pub line_adds : ℕ → ℕ → Line → ℤ
line_adds bra ket x = adds bra x.coeff (ladders_on x.ladders (went ket false))

-- the sum over all lines
abbrev pub lines_element : ℕ → ℕ → List Line → ℤ
lines_element bra ket xs = sum_of (line_adds bra ket) xs
