-- The comparison of two records: the terms that differ, which of them is named, and the whole answer.
use Rattle.std.specs.Prelude.{Option, Some, None, Result, Bool, not, cond, ◌&&◌, ◌||◌, List, [], ◌∷◌, ◌++◌, eqb, ltb, nat_abs, ◌-ℤ◌}
use Rattle.modes.specs.declared.Term.{Term}
use Rattle.modes.specs.declared.Refusal.{Refusal}
use Rattle.record.specs.Terms.{before}
use Rattle.modes.specs.Terms.{annihilations}
use Rattle.record.specs.Coefficients.{coeff_of}
use Rattle.record.specs.Operands.{Operand}
use Rattle.modes.specs.Refusals.{answered}
use Rattle.results.specs.Results.{operands_refusal}
use Rattle.compare.specs.declared.Difference.{Difference}

-- t is held by one list only or with other coefficients: its words have not one coefficient in both, which is 0 where they are not held
abbrev pub differs : List Term → List Term → Term → Bool
differs ts us t = not (eqb (nat_abs (coeff_of t.cre t.ann ts -ℤ coeff_of t.cre t.ann us)) 0)

-- the terms that p holds of
unfoldable pub those : (Term → Bool) → List Term → List Term
those p [] = []
those p (t ∷ ts) = let rest = those p ts in cond (p t) (t ∷ rest) rest

abbrev pub differing : List Term → List Term → List Term
differing ts us = those (differs ts us) (ts ++ us)

-- t is named rather than u: by the fewest annihilations, then by the lowest (annihilation, creation)
unfoldable pub ahead : Term → Term → Bool
ahead t u = ltb (annihilations t) (annihilations u) || (eqb (annihilations t) (annihilations u) && before t u)

-- the one that is named of t and ts
unfoldable pub foremost : Term → List Term → Term
foremost t [] = t
foremost t (u ∷ ts) = foremost (cond (ahead u t) u t) ts

-- the pair that is named where ts are the terms that differ: the ket is the annihilation word of the one named, the bra its creation word
unfoldable pub named : List Term → Option Difference
named [] = None
named (t ∷ ts) = let f = foremost t ts in Some (record { bra = f.cre; ket = f.ann })

-- 1 to 6, and then the terms
abbrev pub compared_of : Operand → Operand → Result (Option Difference) Refusal
compared_of a b = answered (operands_refusal a b) (named (differing a.terms b.terms))
