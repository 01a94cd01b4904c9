-- What is read of a field and of a line, numbers as far as one above 2^60. For inner functions only.
use Rattle.std.specs.Prelude.{cond, List, [], ◌∷◌, map, ℕ, eqb, nat_abs, Option, Some, None, length}
use Rattle.decimals.specs.Decimal.{read_on}
use Rattle.decimals.specs.Numbers.{is_number}
use Rattle.decimals.specs.Ceiling.{up_to}
use Rattle.lines.specs.Grammar.{pieces, is_ladder, ladder_of, all_ladders, is_minus, magnitude_of, is_line, line_of}
use Rattle.lines.specs.Refusals.{all_below}
use Rattle.lines.specs.declared.ReadLadder.{ReadLadder}
use Rattle.lines.specs.declared.ReadCoefficient.{ReadCoefficient}
use Rattle.lines.specs.declared.ReadLadders.{ReadLadders}
use Rattle.lines.specs.declared.ReadLine.{ReadLine}

-- the bytes before the first b, or all
unfoldable pub front : ℕ → List ℕ → List ℕ
front b [] = []
front b (x ∷ l) = let later = front b l in cond (eqb x b) [] (x ∷ later)

-- the pieces after the byte that ended one
unfoldable pub rest : ℕ → List ℕ → List (List ℕ)
rest b [] = []
rest b (x ∷ l) = pieces b l

-- the ladder that any bytes make
abbrev pub ladder_made : List ℕ → ReadLadder
ladder_made l = record { annihilates = (ladder_of l).needs; mode = up_to (ladder_of l).mode }

-- a ladder, where the field is one
abbrev pub ladder_read : List ℕ → Option ReadLadder
ladder_read l = cond (is_ladder l) (Some (ladder_made l)) None

-- the coefficient that any bytes make
abbrev pub coefficient_made : List ℕ → ReadCoefficient
coefficient_made l = record { sign = record { 0 = is_minus l }; magnitude = up_to (read_on 0 (magnitude_of l)) }

-- a coefficient, where the field is one
abbrev pub coefficient_read : List ℕ → Option ReadCoefficient
coefficient_read l = cond (is_number (magnitude_of l)) (Some (coefficient_made l)) None

-- the ladders that any fields make
abbrev pub ladders_made : ℕ → List (List ℕ) → ReadLadders
ladders_made m ls = record { inside = all_below m (map ladder_of ls); count = length ls }

-- the ladders of a line, where all fields are ladders
abbrev pub ladders_read : ℕ → List (List ℕ) → Option ReadLadders
ladders_read m ls = cond (all_ladders ls) (Some (ladders_made m ls)) None

-- the line that any bytes make
abbrev pub line_made : ℕ → List ℕ → ReadLine
line_made m l = record {
  inside = all_below m (line_of l).ladders;
  ladders = length (line_of l).ladders;
  magnitude = up_to (nat_abs (line_of l).coeff);
}

-- a line, where the bytes are one
abbrev pub line_read : ℕ → List ℕ → Option ReadLine
line_read m l = cond (is_line l) (Some (line_made m l)) None
