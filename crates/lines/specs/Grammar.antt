-- The grammar of ladder text, read from bytes. A text is lines, each ended by a line feed. A line is a coefficient and then ladders, each after one space.
use Rattle.std.specs.Prelude.{Bool, true, false, cond, ◌&&◌, ◌||◌, List, [], ◌∷◌, map, ℕ, ◌-◌, eqb, ℤ, pos, length, get_or, take, drop}
use Rattle.products.specs.Operators.{signed}
use Rattle.decimals.specs.Decimal.{read_on}
use Rattle.decimals.specs.Numbers.{is_number}

-- the bytes that part a text, as ASCII: line feed, space, minus, ^ and _
abbrev pub line_feed : ℕ
line_feed = 10

abbrev pub space : ℕ
space = 32

abbrev pub minus : ℕ
minus = 45

abbrev pub creates : ℕ
creates = 94

abbrev pub annihilates : ℕ
annihilates = 95

-- x in front of the first of the pieces
unfoldable pub onto : ℕ → List (List ℕ) → List (List ℕ)
onto x [] = (x ∷ []) ∷ []
onto x (p ∷ ps) = (x ∷ p) ∷ ps

-- the pieces of a list that stand between its bytes b: one more than it has such bytes
unfoldable pub pieces : ℕ → List ℕ → List (List ℕ)
pieces b [] = [] ∷ []
pieces b (x ∷ l) = let later = pieces b l in cond (eqb x b) ([] ∷ later) (onto x later)

-- a ladder: what it needs of its mode, as in the phase rule, and the mode
pub record Ladder : Type 0 where
  pub needs : Bool
  pub mode : ℕ

-- as text: a number, and then ^ or _
abbrev pub kind_of : List ℕ → ℕ
kind_of l = get_or l (length l - 1) 0

abbrev pub mode_of : List ℕ → List ℕ
mode_of l = take (length l - 1) l

unfoldable pub is_ladder : List ℕ → Bool
is_ladder l = is_number (mode_of l) && (eqb (kind_of l) creates || eqb (kind_of l) annihilates)

unfoldable pub ladder_of : List ℕ → Ladder
ladder_of l = record { needs = eqb (kind_of l) annihilates; mode = read_on 0 (mode_of l) }

unfoldable pub all_ladders : List (List ℕ) → Bool
all_ladders [] = true
all_ladders (l ∷ ls) = is_ladder l && all_ladders ls

-- a coefficient: an optional minus, and a number
abbrev pub is_minus : List ℕ → Bool
is_minus l = eqb (get_or l 0 0) minus

unfoldable pub magnitude_of : List ℕ → List ℕ
magnitude_of l = cond (is_minus l) (drop 1 l) l

unfoldable pub coefficient_of : List ℕ → ℤ
coefficient_of l = signed (is_minus l) (pos (read_on 0 (magnitude_of l)))

-- a line: a coefficient and ladders
pub record Line : Type 0 where
  pub coeff : ℤ
  pub ladders : List Ladder

-- from its fields
unfoldable pub is_line_of : List (List ℕ) → Bool
is_line_of [] = false
is_line_of (l ∷ ls) = is_number (magnitude_of l) && all_ladders ls

unfoldable pub line_from : List (List ℕ) → Line
line_from [] = record { coeff = pos 0; ladders = [] }
line_from (l ∷ ls) = record { coeff = coefficient_of l; ladders = map ladder_of ls }

abbrev pub is_line : List ℕ → Bool
is_line l = is_line_of (pieces space l)

abbrev pub line_of : List ℕ → Line
line_of l = line_from (pieces space l)

-- the pieces that a line feed ends
unfoldable pub ended : List (List ℕ) → List (List ℕ)
ended [] = []
ended (l ∷ []) = []
ended (l ∷ k ∷ ls) = l ∷ ended (k ∷ ls)

-- the lines of a text
abbrev pub lines_of : List ℕ → List Line
lines_of text = map line_of (ended (pieces line_feed text))
