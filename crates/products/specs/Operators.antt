-- The element of an operator at (bra, ket): the sum of the signed coefficients of the terms that take ket to bra.
use Rattle.std.specs.Prelude.{Bool, true, false, cond, List, ℕ, eqb, ℤ, pos, neg_ℤ}
use Rattle.modes.specs.Sums.{sum_of}
use Rattle.modes.specs.declared.Term.{Term}
use Rattle.products.specs.PhaseRule.{Outcome, gone, went, term}

-- z, or its negation where the sign is minus
abbrev pub signed : Bool → ℤ → ℤ
signed true z = neg_ℤ z
signed false z = z

-- what the coefficient z adds at the bra where an operator's outcome is o
abbrev pub adds : ℕ → ℤ → Outcome → ℤ
adds bra z gone = pos 0
adds bra z (went w s) = cond (eqb w bra) (signed s z) (pos 0)

-- what one term adds at (bra, ket)
abbrev pub part : ℕ → ℕ → Term → ℤ
part bra ket t = adds bra t.coeff (term t.cre t.ann (went ket false))

abbrev pub element : ℕ → ℕ → List Term → ℤ
element bra ket ts = sum_of (part bra ket) ts
