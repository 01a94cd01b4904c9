-- Words that a list of terms holds: those at which the coefficient is not zero; in an ascending list it is the coefficient of the term there.
use mathlib.Core.Path.{◌≡◌, refl, sym, ap, ◌∙◌}
use mathlib.Core.Bool.{Bool, true, false, cond, ◌&&◌}
use mathlib.Core.List.{List, [], ◌∷◌}
use mathlib.Core.Logic.{◌⊎◌, inl, inr}
use Prim.Native.Nat.{ℕ}
use lib.Dec.{eqb}
use lib.IntN.{ℤ, pos, nat_abs, ◌+ℤ◌, ◌-ℤ◌, +ℤ_idl, +ℤ_invr, -ℤ-+ℤ_cancel}
use borrow.Author.Tests.{eqb-true, eqb-false}
use Rattle.modes.specs.Sums.{sum_of}
use Rattle.modes.specs.declared.Term.{Term}
use Rattle.modes.proofs.Bools.{and_l, and_r}
use Rattle.modes.specs.Every.{Every, none, more}
use Rattle.record.specs.Terms.{Above, Ascending, empty, above}
use Rattle.record.specs.Coefficients.{coeff_of}
use Rattle.record.proofs.Accepted.{abs_zero}
use Rattle.record.proofs.Coefficients.{earlier_words, own_coeff}

-- ---- numbers that are the same

pub no_difference : (x y : ℤ) → x -ℤ y ≡ pos 0 → x ≡ y
no_difference x y e = sym (-ℤ-+ℤ_cancel x y) ∙ ap (λ (z : ℤ). z +ℤ y) e ∙ +ℤ_idl y

pub same_difference : (x y : ℤ) → x ≡ y → x -ℤ y ≡ pos 0
same_difference x y e = ap (λ (z : ℤ). z -ℤ y) e ∙ +ℤ_invr y

pub same_or_not : (x y : ℤ) → (x ≡ y) ⊎ (x ≡ y → ⊥)
same_or_not x y = go (eqb (nat_abs (x -ℤ y)) 0) refl
  where
    go : (b : Bool) → eqb (nat_abs (x -ℤ y)) 0 ≡ b → (x ≡ y) ⊎ (x ≡ y → ⊥)
    go true q = inl (no_difference x y (abs_zero (x -ℤ y) (eqb-true _ _ q)))
    go false q = inr (λ e. eqb-false _ _ q (ap nat_abs (same_difference x y e)))

-- ---- words that are held

-- what holds of some term of a list
abbrev pub Some : (Term → Type 0) → List Term → Type 0
Some P [] = ⊥
Some P (t ∷ ts) = P t ⊎ Some P ts

-- a term of the list has these words
abbrev pub Held : ℕ → ℕ → List Term → Type 0
Held c a ts = Some (λ t. (t.ann ≡ a) × (t.cre ≡ c)) ts

-- where the coefficient is not zero the words are held
pub held : (c a : ℕ) (ts : List Term) → (coeff_of c a ts ≡ pos 0 → ⊥) → Held c a ts
unfolding sum_of
held c a [] n = absurd (n refl)
held c a (t ∷ ts) n = go (held c a ts) (eqb t.ann a && eqb t.cre c) refl n
  where
    go : ((coeff_of c a ts ≡ pos 0 → ⊥) → Held c a ts) → (b : Bool) → eqb t.ann a && eqb t.cre c ≡ b
        → (cond b t.coeff (pos 0) +ℤ coeff_of c a ts ≡ pos 0 → ⊥)
        → Held c a (t ∷ ts)
    go rest true e m = inl (eqb-true _ _ (and_l (eqb t.ann a) (eqb t.cre c) e), eqb-true _ _ (and_r (eqb t.ann a) (eqb t.cre c) e))
    go rest false e m = inr (rest (λ z. m (+ℤ_idl (coeff_of c a ts) ∙ z)))

-- in an ascending list the coefficient at a term's words is the term's
pub own_coeffs : (ts : List Term) → Ascending ts → Every (λ t. coeff_of t.cre t.ann ts ≡ t.coeff) ts
unfolding sum_of
own_coeffs [] empty = none
own_coeffs (t ∷ ts) (above h s) = more (own_coeff t ts h) (go ts h (own_coeffs ts s))
  where
    go : (us : List Term) → Above t us → Every (λ u. coeff_of u.cre u.ann ts ≡ u.coeff) us → Every (λ u. coeff_of u.cre u.ann (t ∷ ts) ≡ u.coeff) us
    go [] none none = none
    go (u ∷ us) (more b bs) (more e es) =
        more (ap (λ (z : ℤ). z +ℤ coeff_of u.cre u.ann ts) (earlier_words t u b) ∙ +ℤ_idl (coeff_of u.cre u.ann ts) ∙ e) (go us bs es)
