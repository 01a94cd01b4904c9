-- A line multiplied out: {|} with its coefficient, times its ladders from left to right, each product by the rows of the phase rule.
use Rattle.std.specs.Prelude.{cond, List, [], ◌∷◌, ℕ, ◌^◌, ℤ}
use Rattle.modes.specs.Sums.{list_of}
use Rattle.modes.specs.declared.Term.{Term}
use Rattle.products.specs.Product.{rows_times}
use Rattle.lines.specs.Grammar.{Ladder, Line}

-- the two words of a ladder as a term
abbrev pub creation : Ladder → ℕ
creation x = cond x.needs 0 (2 ^ x.mode)

abbrev pub annihilation : Ladder → ℕ
annihilation x = cond x.needs (2 ^ x.mode) 0

-- the rows of a term times one ladder, and times ladders
abbrev pub rows_with : Term → Ladder → List Term
rows_with t x = rows_times t.cre t.ann (creation x) (annihilation x) t.coeff

unfoldable pub rows_after : Term → List Ladder → List Term
rows_after t [] = t ∷ []
rows_after t (x ∷ xs) = list_of (λ u. rows_after u xs) (rows_with t x)

-- {|} times z, from which a line starts
abbrev pub plain : ℤ → Term
plain z = record { cre = 0; ann = 0; coeff = z }

abbrev pub rows_of : Line → List Term
rows_of x = rows_after (plain x.coeff) x.ladders
