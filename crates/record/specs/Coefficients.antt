-- The coefficient of the term {cre|ann} in an operator: the sum of the coefficients of the terms with these words.
use Rattle.std.specs.Prelude.{ℕ, cond, ◌&&◌, List, eqb, ℤ, pos}
use Rattle.modes.specs.Sums.{sum_of}
use Rattle.modes.specs.declared.Term.{Term}

-- what one term adds to it
abbrev pub coeff_in : ℕ → ℕ → Term → ℤ
coeff_in cre ann t = cond (eqb t.ann ann && eqb t.cre cre) t.coeff (pos 0)

abbrev pub coeff_of : ℕ → ℕ → List Term → ℤ
coeff_of cre ann ts = sum_of (coeff_in cre ann) ts
