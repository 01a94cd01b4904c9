-- Numbers in decimal, as ASCII.
use Rattle.std.specs.Prelude.{cond, List, [], ◌∷◌, ◌++◌, ℕ, zero, suc, ◌+◌, ◌*◌, ◌-◌, ◌/◌, ◌%◌, ltb}

-- the digits of n, the highest first, where there are at most k
unfoldable pub digits : ℕ → ℕ → List ℕ
digits zero n = []
digits (suc k) n = let higher = digits k (n / 10) in cond (ltb n 10) [] higher ++ ((48 + n % 10) ∷ [])

-- n + 1 digits are more than enough for n
unfoldable pub decimal : ℕ → List ℕ
decimal n = digits (suc n) n

-- a number and the byte after it
abbrev pub field : ℕ → ℕ → List ℕ
field n end = decimal n ++ (end ∷ [])

-- the number that digits make, read on after the number n
unfoldable pub read_on : ℕ → List ℕ → ℕ
read_on n [] = n
read_on n (d ∷ ds) = read_on (10 * n + (d - 48)) ds
