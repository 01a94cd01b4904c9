-- The terms that differ, as the definition lists them and as the terms of the difference: both lists have the words at which the coefficients differ.
use mathlib.Core.Path.{◌≡◌, refl, sym, ap, ap₂, ◌∙◌}
use mathlib.Core.Bool.{Bool, true, false, not, cond, true≢false}
use mathlib.Core.List.{List, [], ◌∷◌, ◌++◌, map}
use mathlib.Core.Logic.{◌⊎◌, inl, inr}
use Prim.Native.Nat.{ℕ}
use lib.IntN.{ℤ, pos, nat_abs, ◌+ℤ◌, ◌-ℤ◌}
use borrow.Author.Tests.{eq-eqb, ne_eqb}
use Rattle.modes.specs.declared.Term.{Term}
use Rattle.modes.specs.Every.{Every, none, more}
use Rattle.modes.proofs.Every.{every_implies, every_both}
use Rattle.record.specs.Terms.{Ascending}
use Rattle.record.specs.Coefficients.{coeff_of}
use Rattle.record.proofs.Accepted.{abs_zero}
use Rattle.normal.specs.Normal.{drop_zeros}
use Rattle.normal.proofs.Words.{Some, Held, no_difference, same_difference, same_or_not, held, own_coeffs}
use Rattle.normal.proofs.Totals.{coeff_drop}
use Rattle.normal.proofs.Normal.{ascending_drop, nonzero_drop}
use Rattle.lincomb.specs.Sums.{turn}
use Rattle.lincomb.specs.Merging.{merge}
use Rattle.lincomb.proofs.Totals.{coeff_merge, coeff_turn}
use Rattle.lincomb.proofs.Merging.{ascending_turn, ascending_merge}
use Rattle.compare.specs.Comparison.{differs, those, differing}
use Rattle.compare.proofs.Naming.{Lists}

-- the words have not one coefficient in both lists
abbrev pub Differ : List Term → List Term → ℕ → ℕ → Type 0
Differ ts us c a = coeff_of c a ts ≡ coeff_of c a us → ⊥

-- ---- words that are held

some_more : (P : Term → Type 0) (ts us : List Term) → Some P ts ⊎ Some P us → Some P (ts ++ us)
some_more P [] us (inl s) = absurd s
some_more P [] us (inr s) = s
some_more P (t ∷ ts) us (inl (inl p)) = inl p
some_more P (t ∷ ts) us (inl (inr s)) = inr (some_more P ts us (inl s))
some_more P (t ∷ ts) us (inr s) = inr (some_more P ts us (inr s))

held_by_either : (c a : ℕ) (ts us : List Term) → Differ ts us c a → Held c a (ts ++ us)
held_by_either c a ts us d = some_more _ ts us (go (same_or_not (coeff_of c a ts) (pos 0)))
  where
    go : (coeff_of c a ts ≡ pos 0) ⊎ (coeff_of c a ts ≡ pos 0 → ⊥) → Held c a ts ⊎ Held c a us
    go (inl z) = inr (held c a us (λ y. d (z ∙ sym y)))
    go (inr n) = inl (held c a ts n)

-- ---- the terms that the definition lists

each_those : (p : Term → Bool) (ts : List Term) → Every (λ t. p t ≡ true) (those p ts)
unfolding those
each_those p [] = none
each_those p (t ∷ ts) = go (p t) refl (each_those p ts)
  where
    go : (b : Bool) → p t ≡ b → Every (λ u. p u ≡ true) (those p ts) → Every (λ u. p u ≡ true) (cond b (t ∷ those p ts) (those p ts))
    go true e h = more e h
    go false e h = h

some_those : (P : Term → Type 0) (p : Term → Bool) (ts : List Term) → ((t : Term) → P t → p t ≡ true) → Some P ts → Some P (those p ts)
unfolding those
some_those P p [] f s = absurd s
some_those P p (t ∷ ts) f s = go (some_those P p ts f) (p t) refl s
  where
    go : (Some P ts → Some P (those p ts)) → (b : Bool) → p t ≡ b → P t ⊎ Some P ts → Some P (cond b (t ∷ those p ts) (those p ts))
    go rest true e (inl h) = inl h
    go rest true e (inr k) = inr (rest k)
    go rest false e (inl h) = absurd (true≢false (sym (f t h) ∙ e))
    go rest false e (inr k) = rest k

module _ (ts us : List Term) where
  told : (t : Term) → differs ts us t ≡ true → Differ ts us t.cre t.ann
  told t e q =
      let z = same_difference (coeff_of t.cre t.ann ts) (coeff_of t.cre t.ann us) q in
      true≢false (sym e ∙ ap not (eq-eqb _ 0 (ap nat_abs z)))

  telling : (t : Term) → Differ ts us t.cre t.ann → differs ts us t ≡ true
  telling t d =
      ap not (ne_eqb _ 0 (λ z. d (no_difference (coeff_of t.cre t.ann ts) (coeff_of t.cre t.ann us) (abs_zero _ z))))

  pub lists_differing : Lists (Differ ts us) (differing ts us)
  lists_differing =
      record {
        each = every_implies _ told (each_those (differs ts us) _);
        all = λ c a d.
            some_those _ (differs ts us) (ts ++ us)
            (λ t w. telling t (λ q. d (ap₂ (λ (x y : ℕ). coeff_of x y ts) (sym w.1) (sym w.0) ∙ q ∙ ap₂ (λ (x y : ℕ). coeff_of x y us) w.1 w.0)))
            (held_by_either c a ts us d);
      }

-- ---- the terms of the difference

module _ (ts us : List Term) (s : Ascending ts) (r : Ascending us) where
  abbrev difference : List Term
  difference = drop_zeros (merge ts (map (turn true) us))

  ascends : Ascending difference
  ascends = ascending_drop _ (ascending_merge ts (map (turn true) us) s (ascending_turn true us r))

  coefficient : (c a : ℕ) → coeff_of c a difference ≡ coeff_of c a ts -ℤ coeff_of c a us
  coefficient c a = coeff_drop c a _ ∙ coeff_merge c a ts (map (turn true) us) ∙ ap (λ (z : ℤ). coeff_of c a ts +ℤ z) (coeff_turn c a true us)

  pub lists_difference : Lists (Differ ts us) difference
  lists_difference =
      record {
        each = every_implies difference
            (λ t k q. k.1 (sym k.0 ∙ coefficient t.cre t.ann ∙ same_difference _ _ q))
            (every_both difference (own_coeffs difference ascends) (nonzero_drop _));
        all = λ c a d. held c a difference (λ z. d (no_difference _ _ (sym (coefficient c a) ∙ z)));
      }
