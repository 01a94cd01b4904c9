-- Ladders and a line as they are written, but for the line's sign: what the grammar is held to.
use Rattle.std.specs.Prelude.{◌≡◌, Bool, cond, List, [], ◌∷◌, ◌++◌, ℕ, nat_abs}
use Rattle.modes.specs.Sums.{list_of}
use Rattle.decimals.specs.Decimal.{decimal, field}
use Rattle.lines.specs.Grammar.{space, minus, creates, annihilates, Ladder, Line}

abbrev pub kind_byte : Bool → ℕ
kind_byte needs = cond needs annihilates creates

abbrev pub ladder_text : Ladder → List ℕ
ladder_text x = field x.mode (kind_byte x.needs)

-- each after a space
abbrev pub ladders_text : List Ladder → List ℕ
ladders_text xs = list_of (λ x. space ∷ ladder_text x) xs

abbrev pub plain_text : Line → List ℕ
plain_text x = decimal (nat_abs x.coeff) ++ ladders_text x.ladders

-- bytes that are the line x as it is written, after a minus or none
pub record Spelled (l : List ℕ) (x : Line) : Type 0 where
  pub signed : Bool
  pub is : l ≡ cond signed (minus ∷ []) [] ++ plain_text x
