-- The sum of one part of the coefficients, re or im, over the terms in the caller's order: one rounding for each term that takes ket to bra.
use Rattle.std.specs.Prelude.{Bool, true, false, cond, List, ℕ, zero, suc, eqb, pos, get_or, Float}
use Rattle.std.specs.Float.{nan, fin, binary64}
use Rattle.std.specs.Float.Ieee.{add, neg}
use Rattle.products.specs.PhaseRule.{Outcome, gone, went, term}

abbrev pub plus_zero : Float
plus_zero = fin false 0 (pos 0)

-- c, or its negation where the sign is minus
abbrev pub signed_float : Bool → Float → Float
signed_float true c = neg c
signed_float false c = c

-- what the sum x becomes at the bra with the coefficient c, where a term's outcome is o
abbrev pub added_float : ℕ → Float → Float → Outcome → Float
added_float bra c x gone = x
added_float bra c x (went w s) = cond (eqb w bra) (add binary64 x (signed_float s c)) x

-- the sum x and one term, whose coefficient is c
abbrev pub joined : ℕ → ℕ → ℕ → ℕ → Float → Float → Float
joined bra ket cre ann c x = added_float bra c x (term cre ann (went ket false))

-- the sum over the first n terms, from plus zero
unfoldable pub sum_to : ℕ → ℕ → List ℕ → List ℕ → List Float → ℕ → Float
sum_to bra ket cre ann cs zero = plus_zero
sum_to bra ket cre ann cs (suc n) = joined bra ket (get_or cre n 0) (get_or ann n 0) (get_or cs n nan) (sum_to bra ket cre ann cs n)
