-- A number in a text: 0, or digits without a leading zero, as ASCII.
use Rattle.std.specs.Prelude.{Bool, true, false, not, ◌&&◌, ◌||◌, List, [], ◌∷◌, ℕ, eqb, leb, length}

-- a digit, from 0 to 9
abbrev pub is_digit : ℕ → Bool
is_digit b = leb 48 b && leb b 57

unfoldable pub all_digits : List ℕ → Bool
all_digits [] = true
all_digits (b ∷ l) = is_digit b && all_digits l

-- a byte, and no zero in front of others
unfoldable pub starts_well : List ℕ → Bool
starts_well [] = false
starts_well (b ∷ l) = eqb (length l) 0 || not (eqb b 48)

abbrev pub is_number : List ℕ → Bool
is_number l = starts_well l && all_digits l
