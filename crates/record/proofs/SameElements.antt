-- A record is its elements: two canonical forms on m modes with the same elements at all words on m modes are one list.
use mathlib.Core.Path.{◌≡◌, refl, sym, ◌∙◌, subst}
use mathlib.Core.Bool.{Bool, true, false, cond, ◌&&◌}
use mathlib.Core.List.{List, [], ◌∷◌}
use mathlib.Core.Logic.{◌⊎◌, inl, inr}
use Prim.Native.Nat.{ℕ, zero, suc, ◌^◌, ◌≤◌, ◌<◌}
use native.Mathlib.Nat.{not-suc-le-zero, lt_of_lt_of_le}
use native.Mathlib.Omega.{arith}
use lib.Pow.{pow_mono}
use lib.Dec.{eqb, ltb}
use lib.IntN.{pos, ◌+ℤ◌, +ℤ_idl}
use borrow.Author.Tests.{eqb-true, ltb-true}
use Rattle.modes.specs.Words.{bit}
use Rattle.modes.specs.Counts.{count}
use Rattle.modes.specs.Sums.{sum_of}
use Rattle.modes.specs.declared.Term.{Term}
use Rattle.modes.proofs.Bools.{and_l, and_r}
use Rattle.modes.proofs.Digits.{lt_or_ge}
use Rattle.modes.specs.Every.{Every, none, more}
use Rattle.modes.proofs.Every.{every_implies}
use Rattle.products.specs.Operators.{element}
use Rattle.record.specs.Coefficients.{coeff_of}
use Rattle.record.specs.Canonical.{Inside, Nonzero, Canonical}
use Rattle.record.proofs.Coefficients.{same_terms}
use Rattle.record.proofs.Fewer.{fewer, every_fewer, fewer_ascending, coeff_fewer, fewer_all}
use Rattle.record.proofs.OwnElement.{Wide, same_here}

-- words outside m modes are no term's
pub none_outside : (m c a : ℕ) (ts : List Term) → Every (Inside m) ts → (c < 2 ^ m → a < 2 ^ m → ⊥) → coeff_of c a ts ≡ pos 0
unfolding sum_of
none_outside m c a [] none n = refl
none_outside m c a (t ∷ ts) (more h hs) n = go (eqb t.ann a && eqb t.cre c) refl (none_outside m c a ts hs n)
  where
    go : (b : Bool) → eqb t.ann a && eqb t.cre c ≡ b → coeff_of c a ts ≡ pos 0 → cond b t.coeff (pos 0) +ℤ coeff_of c a ts ≡ pos 0
    go true e ih =
        absurd (n (subst (λ (x : ℕ). x < 2 ^ m) (eqb-true t.cre c (and_r (eqb t.ann a) (eqb t.cre c) e)) h.cre)
        (subst (λ (x : ℕ). x < 2 ^ m) (eqb-true t.ann a (and_l (eqb t.ann a) (eqb t.cre c) e)) h.ann))
    go false e ih = +ℤ_idl (coeff_of c a ts) ∙ ih

inside_wide : (m : ℕ) (ts : List Term) → m ≤ 64 → Every (Inside m) ts → Every Wide ts
inside_wide m ts h = every_implies ts (λ t i. (lt_of_lt_of_le i.cre (pow_mono h), lt_of_lt_of_le i.ann (pow_mono h)))

module _ (m : ℕ) (ts us : List Term) (kt : Canonical m ts) (ku : Canonical m us) where
  -- one coefficient at all words with fewer than n annihilations: the same terms with fewer than n
  fewer_same : (n : ℕ) → ((c a : ℕ) → c < 2 ^ m → a < 2 ^ m → count 64 (bit a) < n → coeff_of c a ts ≡ coeff_of c a us) → fewer n ts ≡ fewer n us
  fewer_same n e =
      same_terms (fewer n ts) (fewer n us) (fewer_ascending n ts kt.ascending) (fewer_ascending n us ku.ascending)
      (every_fewer Nonzero n ts kt.nonzero) (every_fewer Nonzero n us ku.nonzero)
      (λ c a. coeff_fewer n c a ts ∙ at c a (ltb (count 64 (bit a)) n) refl ∙ sym (coeff_fewer n c a us))
    where
      outside : (c a : ℕ) → (c < 2 ^ m → a < 2 ^ m → ⊥) → coeff_of c a ts ≡ coeff_of c a us
      outside c a h = none_outside m c a ts kt.inside h ∙ sym (none_outside m c a us ku.inside h)

      words : (c a : ℕ) → count 64 (bit a) < n → (c < 2 ^ m) ⊎ (2 ^ m ≤ c) → (a < 2 ^ m) ⊎ (2 ^ m ≤ a) → coeff_of c a ts ≡ coeff_of c a us
      words c a k (inl x) (inl y) = e c a x y k
      words c a k (inl x) (inr y) = outside c a (λ p q. omega arith)
      words c a k (inr x) y = outside c a (λ p q. omega arith)

      at : (c a : ℕ) (b : Bool) → ltb (count 64 (bit a)) n ≡ b
          → cond (ltb (count 64 (bit a)) n) (coeff_of c a ts) (pos 0) ≡ cond (ltb (count 64 (bit a)) n) (coeff_of c a us) (pos 0)
      at c a true q = rw q (words c a (ltb-true (count 64 (bit a)) n q) (lt_or_ge c (2 ^ m)) (lt_or_ge a (2 ^ m)))
      at c a false q = rw q

  -- two that agree at all words with fewer annihilations, and have one element here, have one coefficient here
  pub same_coefficient : (c a : ℕ) → a < 2 ^ m
      → ((c' a' : ℕ) → c' < 2 ^ m → a' < 2 ^ m → count 64 (bit a') < count 64 (bit a) → coeff_of c' a' ts ≡ coeff_of c' a' us)
      → element c a ts ≡ element c a us → coeff_of c a ts ≡ coeff_of c a us
  same_coefficient c a ha below e =
      same_here c a (lt_of_lt_of_le ha (pow_mono kt.most)) ts us (inside_wide m ts kt.most kt.inside) (inside_wide m us kt.most ku.inside)
      (fewer_same (count 64 (bit a)) below) e

  pub same_elements : ((bra ket : ℕ) → bra < 2 ^ m → ket < 2 ^ m → element bra ket ts ≡ element bra ket us) → ts ≡ us
  same_elements e = sym (fewer_all ts) ∙ fewer_same 65 (λ c a hc ha k. up_to_is 65 c a hc ha k) ∙ fewer_all us
    where
      up_to_is : (n c a : ℕ) → c < 2 ^ m → a < 2 ^ m → count 64 (bit a) < n → coeff_of c a ts ≡ coeff_of c a us
      up_to_is zero c a hc ha k = absurd (not-suc-le-zero k)
      up_to_is (suc n) c a hc ha k = same_coefficient c a ha (λ c' a' hc' ha' k'. up_to_is n c' a' hc' ha' (omega arith)) (e c a hc ha)
