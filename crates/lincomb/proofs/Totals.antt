-- What adds up over terms, as elements and coefficients do, adds up over two lists that are merged, and turns its sign with the terms.
use mathlib.Core.Path.{◌≡◌, refl, sym, ap, ◌∙◌}
use mathlib.Core.Bool.{Bool, true, false, cond, ◌&&◌}
use mathlib.Core.List.{List, [], ◌∷◌, map}
use Prim.Native.Nat.{ℕ}
use lib.Dec.{eqb}
use lib.IntN.{ℤ, ◌+ℤ◌, +ℤ_idl, +ℤ_idr, +ℤ_assoc}
use Rattle.modes.specs.Sums.{sum_of}
use Rattle.modes.specs.declared.Term.{Term}
use Rattle.modes.proofs.Sums.{exchange, sum_map}
use Rattle.products.specs.PhaseRule.{went, term}
use Rattle.products.specs.Operators.{signed, part, element}
use Rattle.products.proofs.Signs.{where_signed, adds_signed}
use Rattle.record.specs.Terms.{before}
use Rattle.record.specs.Coefficients.{coeff_in, coeff_of}
use Rattle.normal.specs.Normal.{join}
use Rattle.normal.proofs.Totals.{alike_where_level, Additive, sum_signed, coeff_additive}
use Rattle.lincomb.specs.Sums.{turn}
use Rattle.lincomb.specs.Merging.{merge}

module _ (f : Term → ℤ) (additive : Additive f) where
  sum_merge : (ts us : List Term) → sum_of f (merge ts us) ≡ sum_of f ts +ℤ sum_of f us
  unfolding merge sum_of
  sum_merge [] us = sym (+ℤ_idl (sum_of f us))
  sum_merge (t ∷ ts) [] = sym (+ℤ_idr (f t +ℤ sum_of f ts))
  sum_merge (t ∷ ts) (u ∷ us) =
      go (merge ts (u ∷ us)) (merge (t ∷ ts) us) (merge ts us) (sum_merge ts (u ∷ us)) (sum_merge (t ∷ ts) us) (sum_merge ts us)
      (before t u) (before u t) refl refl
    where
      go : (a b c : List Term) → sum_of f a ≡ sum_of f ts +ℤ (f u +ℤ sum_of f us) → sum_of f b ≡ (f t +ℤ sum_of f ts) +ℤ sum_of f us
          → sum_of f c ≡ sum_of f ts +ℤ sum_of f us → (x y : Bool) → before t u ≡ x → before u t ≡ y
          → sum_of f (cond x (t ∷ a) (cond y (u ∷ b) (join t u ∷ c))) ≡ (f t +ℤ sum_of f ts) +ℤ (f u +ℤ sum_of f us)
      go a b c p q s true y e h = ap (λ (z : ℤ). f t +ℤ z) p ∙ sym (+ℤ_assoc (f t) (sum_of f ts) (f u +ℤ sum_of f us))
      go a b c p q s false true e h = ap (λ (z : ℤ). f u +ℤ z) q ∙ exchange (f u) (f t +ℤ sum_of f ts) (sum_of f us)
      go a b c p q s false false e h =
          ap (λ (z : ℤ). z +ℤ sum_of f c) (additive.like t u (alike_where_level t u e h)) ∙ ap (λ (z : ℤ). (f t +ℤ f u) +ℤ z) s
          ∙ +ℤ_assoc (f t) (f u) (sum_of f ts +ℤ sum_of f us) ∙ ap (λ (z : ℤ). f t +ℤ z) (exchange (f u) (sum_of f ts) (sum_of f us))
          ∙ sym (+ℤ_assoc (f t) (sum_of f ts) (f u +ℤ sum_of f us))

-- ---- signs

sum_turn : (f : Term → ℤ) (minus : Bool) → ((t : Term) → f (turn minus t) ≡ signed minus (f t)) → (ts : List Term)
    → sum_of f (map (turn minus) ts) ≡ signed minus (sum_of f ts)
sum_turn f minus h ts = sum_map f (turn minus) ts ∙ sum_signed (λ t. f (turn minus t)) f minus h ts

-- ---- coefficients

pub coeff_merge : (c a : ℕ) (ts us : List Term) → coeff_of c a (merge ts us) ≡ coeff_of c a ts +ℤ coeff_of c a us
coeff_merge c a = sum_merge (coeff_in c a) (coeff_additive c a)

pub coeff_turn : (c a : ℕ) (minus : Bool) (ts : List Term) → coeff_of c a (map (turn minus) ts) ≡ signed minus (coeff_of c a ts)
coeff_turn c a minus = sum_turn (coeff_in c a) minus (λ t. where_signed (eqb t.ann a && eqb t.cre c) minus t.coeff)

-- ---- elements

pub element_turn : (bra ket : ℕ) (minus : Bool) (ts : List Term) → element bra ket (map (turn minus) ts) ≡ signed minus (element bra ket ts)
element_turn bra ket minus =
    sum_turn (part bra ket) minus (λ t. adds_signed bra minus t.coeff (term t.cre t.ann (went ket false)))
