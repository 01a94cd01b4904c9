-- What adds up over terms, as elements and coefficients do, is not changed by joining like terms or dropping zeros.
use mathlib.Core.Path.{◌≡◌, refl, sym, ap, ap₂, ◌∙◌}
use mathlib.Core.Bool.{Bool, true, false, cond, ◌&&◌, true≢false}
use mathlib.Core.List.{List, [], ◌∷◌}
use Prim.Native.Nat.{ℕ}
use lib.Dec.{eqb}
use lib.IntN.{ℤ, pos, nat_abs, ◌+ℤ◌, +ℤ_idl, +ℤ_assoc}
use borrow.Author.Tests.{eqb-true, eq-eqb}
use Rattle.modes.specs.Sums.{sum_of}
use Rattle.modes.specs.declared.Term.{Term}
use Rattle.modes.proofs.Sums.{exchange}
use Rattle.modes.proofs.Bools.{and_l, and_r}
use Rattle.products.specs.PhaseRule.{Outcome, gone, went, term}
use Rattle.products.specs.Operators.{signed, adds, part, element}
use Rattle.products.proofs.Signs.{signed_zero, signed_add}
use Rattle.record.specs.Terms.{before}
use Rattle.record.specs.Coefficients.{coeff_in, coeff_of}
use Rattle.record.proofs.Order.{Compared, less, same, greater, compare}
use Rattle.record.proofs.Accepted.{abs_zero}
use Rattle.normal.specs.Normal.{alike, join, insert, collect, drop_zeros, normal}

pub alike_words : (t u : Term) → t.ann ≡ u.ann → t.cre ≡ u.cre → alike t u ≡ true
alike_words t u p q = rw (eq-eqb _ _ p, eq-eqb _ _ q)

-- terms of which neither stands before the other are alike
pub alike_where_level : (t u : Term) → before t u ≡ false → before u t ≡ false → alike t u ≡ true
alike_where_level t u e f = go (compare t u)
  where
    go : Compared t u → alike t u ≡ true
    go (less h) = absurd (true≢false (sym h ∙ e))
    go (same p q) = alike_words t u p q
    go (greater h) = absurd (true≢false (sym h ∙ f))

-- f adds up over like terms, and is zero where the coefficient is
pub record Additive (f : Term → ℤ) : Type 0 where
  pub like : (t u : Term) → alike t u ≡ true → f (join t u) ≡ f t +ℤ f u
  pub none : (t : Term) → nat_abs t.coeff ≡ 0 → f t ≡ pos 0

module _ (f : Term → ℤ) (additive : Additive f) where
  sum_insert : (t : Term) (ts : List Term) → sum_of f (insert t ts) ≡ f t +ℤ sum_of f ts
  unfolding sum_of insert
  sum_insert t [] = refl
  sum_insert t (u ∷ ts) = go (sum_insert t ts) (alike t u) (before t u) refl
    where
      go : sum_of f (insert t ts) ≡ f t +ℤ sum_of f ts → (a b : Bool) → alike t u ≡ a
          → sum_of f (cond a (join t u ∷ ts) (cond b (t ∷ u ∷ ts) (u ∷ insert t ts))) ≡ f t +ℤ (f u +ℤ sum_of f ts)
      go ih true b e = ap (λ (x : ℤ). x +ℤ sum_of f ts) (additive.like t u e) ∙ +ℤ_assoc (f t) (f u) (sum_of f ts)
      go ih false true e = refl
      go ih false false e = ap (λ (x : ℤ). f u +ℤ x) ih ∙ exchange (f u) (f t) (sum_of f ts)

  sum_collect : (ts : List Term) → sum_of f (collect ts) ≡ sum_of f ts
  unfolding sum_of collect
  sum_collect [] = refl
  sum_collect (t ∷ ts) = sum_insert t (collect ts) ∙ ap (λ (x : ℤ). f t +ℤ x) (sum_collect ts)

  sum_drop : (ts : List Term) → sum_of f (drop_zeros ts) ≡ sum_of f ts
  unfolding sum_of drop_zeros
  sum_drop [] = refl
  sum_drop (t ∷ ts) = go (sum_drop ts) (eqb (nat_abs t.coeff) 0) refl
    where
      go : sum_of f (drop_zeros ts) ≡ sum_of f ts → (b : Bool) → eqb (nat_abs t.coeff) 0 ≡ b
          → sum_of f (cond b (drop_zeros ts) (t ∷ drop_zeros ts)) ≡ f t +ℤ sum_of f ts
      go ih true e = ih ∙ sym (+ℤ_idl (sum_of f ts)) ∙ ap (λ (x : ℤ). x +ℤ sum_of f ts) (sym (additive.none t (eqb-true _ _ e)))
      go ih false e = ap (λ (x : ℤ). f t +ℤ x) ih

  sum_normal : (ts : List Term) → sum_of f (normal ts) ≡ sum_of f ts
  sum_normal ts = sum_drop (collect ts) ∙ sum_collect ts

-- a sum whose parts have one sign
pub sum_signed : (f g : Term → ℤ) (s : Bool) → ((t : Term) → f t ≡ signed s (g t)) → (ts : List Term) → sum_of f ts ≡ signed s (sum_of g ts)
unfolding sum_of
sum_signed f g s h [] = sym (signed_zero s)
sum_signed f g s h (t ∷ ts) = ap₂ (λ (x y : ℤ). x +ℤ y) (h t) (sum_signed f g s h ts) ∙ sym (signed_add s (g t) (sum_of g ts))

-- a value that is taken where a test holds, and is zero elsewhere
where_add : (b : Bool) (x y : ℤ) → cond b (x +ℤ y) (pos 0) ≡ cond b x (pos 0) +ℤ cond b y (pos 0)
where_add true x y = refl
where_add false x y = refl

where_zero : (b : Bool) → cond b (pos 0) (pos 0) ≡ pos 0
where_zero true = refl
where_zero false = refl

same_ann : (t u : Term) → alike t u ≡ true → t.ann ≡ u.ann
same_ann t u e = eqb-true _ _ (and_l (eqb t.ann u.ann) (eqb t.cre u.cre) e)

same_cre : (t u : Term) → alike t u ≡ true → t.cre ≡ u.cre
same_cre t u e = eqb-true _ _ (and_r (eqb t.ann u.ann) (eqb t.cre u.cre) e)

-- ---- coefficients

pub coeff_additive : (c a : ℕ) → Additive (coeff_in c a)
unfolding join
coeff_additive c a =
    record {
      like = λ t u e.
          where_add (eqb u.ann a && eqb u.cre c) t.coeff u.coeff
          ∙ ap (λ (x : ℤ). x +ℤ coeff_in c a u) (ap₂ (λ (x y : ℕ). cond (eqb x a && eqb y c) t.coeff (pos 0)) (sym (same_ann t u e)) (sym (same_cre t u e)));
      none = λ t z. ap (λ (x : ℤ). cond (eqb t.ann a && eqb t.cre c) x (pos 0)) (abs_zero t.coeff z) ∙ where_zero (eqb t.ann a && eqb t.cre c);
    }

pub coeff_normal : (c a : ℕ) (ts : List Term) → coeff_of c a (normal ts) ≡ coeff_of c a ts
coeff_normal c a = sum_normal (coeff_in c a) (coeff_additive c a)

pub coeff_drop : (c a : ℕ) (ts : List Term) → coeff_of c a (drop_zeros ts) ≡ coeff_of c a ts
coeff_drop c a = sum_drop (coeff_in c a) (coeff_additive c a)

-- ---- elements

adds_add : (bra : ℕ) (x y : ℤ) (o : Outcome) → adds bra (x +ℤ y) o ≡ adds bra x o +ℤ adds bra y o
adds_add bra x y gone = refl
adds_add bra x y (went w s) = ap (λ (z : ℤ). cond (eqb w bra) z (pos 0)) (signed_add s x y) ∙ where_add (eqb w bra) (signed s x) (signed s y)

adds_zero : (bra : ℕ) (o : Outcome) → adds bra (pos 0) o ≡ pos 0
adds_zero bra gone = refl
adds_zero bra (went w s) = ap (λ (z : ℤ). cond (eqb w bra) z (pos 0)) (signed_zero s) ∙ where_zero (eqb w bra)

element_additive : (bra ket : ℕ) → Additive (part bra ket)
unfolding join
element_additive bra ket =
    record {
      like = λ t u e.
          adds_add bra t.coeff u.coeff (term u.cre u.ann (went ket false))
          ∙ ap (λ (o : Outcome). adds bra t.coeff o +ℤ part bra ket u)
          (ap₂ (λ (c a : ℕ). term c a (went ket false)) (sym (same_cre t u e)) (sym (same_ann t u e)));
      none = λ t z. ap (λ (x : ℤ). adds bra x (term t.cre t.ann (went ket false))) (abs_zero t.coeff z) ∙ adds_zero bra (term t.cre t.ann (went ket false));
    }

-- joining like terms and dropping zeros changes no element
pub element_normal : (bra ket : ℕ) (ts : List Term) → element bra ket (normal ts) ≡ element bra ket ts
element_normal bra ket = sum_normal (part bra ket) (element_additive bra ket)
