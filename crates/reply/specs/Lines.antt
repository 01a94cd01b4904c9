-- The line of a refusal, and of any three numbers: `refused N O P`, ended by a line feed.
use Rattle.std.specs.Prelude.{cond, List, [], ◌∷◌, ◌++◌, ℕ, leb, length}
use Rattle.modes.specs.Reasons.{number_of}
use Rattle.modes.specs.declared.Refusal.{Refusal}
use Rattle.decimals.specs.Decimal.{field}

-- `refused` and a space, as ASCII
abbrev pub refused_word : List ℕ
refused_word = 114 ∷ 101 ∷ 102 ∷ 117 ∷ 115 ∷ 101 ∷ 100 ∷ 32 ∷ []

-- it and three numbers, with spaces between them
abbrev pub line_of_numbers : ℕ → ℕ → ℕ → List ℕ
line_of_numbers number operand place = refused_word ++ (field number 32 ++ (field operand 32 ++ field place 10))

-- the same, or nothing where it is longer than an output of `room` bytes
unfoldable pub line_of_numbers_in : ℕ → ℕ → ℕ → ℕ → List ℕ
line_of_numbers_in room number operand place = let line = line_of_numbers number operand place in cond (leb (length line) room) line []

-- the line of a refusal's number, operand and place
unfoldable pub refused_line : Refusal → List ℕ
refused_line r = line_of_numbers (number_of r.reason) r.operand r.place

-- the same, or nothing where it is longer
unfoldable pub line_in : ℕ → Refusal → List ℕ
line_in room r = line_of_numbers_in room (number_of r.reason) r.operand r.place
