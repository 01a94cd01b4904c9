-- An ascending list of terms without zeros is known by its coefficients, so one operator has one canonical form.
use mathlib.Core.Path.{◌≡◌, refl, sym, ap, ap₂, ◌∙◌}
use mathlib.Core.Bool.{true, and-false}
use mathlib.Core.List.{List, [], ◌∷◌}
use Prim.Native.Nat.{ℕ}
use native.Mathlib.Omega.{arith}
use lib.Dec.{eqb}
use lib.IntN.{pos, ◌+ℤ◌, +ℤ_idr}
use borrow.Author.Tests.{eq-eqb, ne_eqb}
use Rattle.modes.specs.Sums.{sum_of}
use Rattle.modes.proofs.Sums.{cancel, sum_cons}
use Rattle.modes.specs.declared.Term.{Term}
use Rattle.modes.specs.Answers.{none as unrefused}
use Rattle.modes.specs.Every.{Every, none, more}
use Rattle.lent.proofs.RowLaws.{term_of}
use Rattle.record.specs.Terms.{before, Above, Ascending, empty, above}
use Rattle.record.specs.Layout.{modes_of, terms_of}
use Rattle.record.specs.Refusals.{refusal_of}
use Rattle.record.specs.Coefficients.{coeff_in, coeff_of}
use Rattle.record.specs.Canonical.{Nonzero}
use Rattle.record.proofs.Order.{Order, lower, level, order, Compared, less, same, greater, compare, above_trans}
use Rattle.record.proofs.Accepted.{accepted_canonical}
use Rattle.record.proofs.Inverse.{Small, same_bytes}

-- a term that stands before another has other words
other_words : (t u : Term) → before t u ≡ true → coeff_in t.cre t.ann u ≡ pos 0
other_words t u e = go (order t u e)
  where
    go : Order t u → coeff_in t.cre t.ann u ≡ pos 0
    go (lower h) = rw (ne_eqb u.ann t.ann (λ q. omega arith))
    go (level q h) = rw (ne_eqb u.cre t.cre (λ p. omega arith), and-false (eqb u.ann t.ann))

-- and so has the one after it
pub earlier_words : (t x : Term) → before t x ≡ true → coeff_in x.cre x.ann t ≡ pos 0
earlier_words t x e = go (order t x e)
  where
    go : Order t x → coeff_in x.cre x.ann t ≡ pos 0
    go (lower h) = rw (ne_eqb t.ann x.ann (λ q. omega arith))
    go (level q h) = rw (ne_eqb t.cre x.cre (λ p. omega arith), and-false (eqb t.ann x.ann))

above_none : (t : Term) (ts : List Term) → Above t ts → coeff_of t.cre t.ann ts ≡ pos 0
unfolding sum_of
above_none t [] none = refl
above_none t (u ∷ ts) (more h a) = rw (other_words t u h, above_none t ts a)

pub own_coeff : (t : Term) (ts : List Term) → Above t ts → coeff_of t.cre t.ann (t ∷ ts) ≡ t.coeff
unfolding sum_of
own_coeff t ts h = rw (eq-eqb t.ann t.ann refl, eq-eqb t.cre t.cre refl, above_none t ts h) (+ℤ_idr t.coeff)

-- the first term of an ascending list is nowhere in one that starts above it
clash : (t : Term) (ts us : List Term) → Above t ts → Nonzero t → Above t us → coeff_of t.cre t.ann (t ∷ ts) ≡ coeff_of t.cre t.ann us → ⊥
clash t ts us h n k e = n (sym (own_coeff t ts h) ∙ e ∙ above_none t us k)

pub same_terms : (ts us : List Term) → Ascending ts → Ascending us → Every Nonzero ts → Every Nonzero us
    → ((c a : ℕ) → coeff_of c a ts ≡ coeff_of c a us) → ts ≡ us
same_terms [] [] empty empty none none e = refl
same_terms [] (u ∷ us) empty (above h s) none (more n ns) e = absurd (clash u us [] h n none (sym (e u.cre u.ann)))
same_terms (t ∷ ts) [] (above h s) empty (more n ns) none e = absurd (clash t ts [] h n none (e t.cre t.ann))
same_terms (t ∷ ts) (u ∷ us) (above h s) (above k r) (more n ns) (more m ms) e = go (same_terms ts us s r ns ms) (compare t u)
  where
    go : (((c a : ℕ) → coeff_of c a ts ≡ coeff_of c a us) → ts ≡ us) → Compared t u → ◌≡◌ {A = List Term} (t ∷ ts) (u ∷ us)
    go rest (less b) = absurd (clash t ts (u ∷ us) h n (more b (above_trans t u us b k)) (e t.cre t.ann))
    go rest (greater b) = absurd (clash u us (t ∷ ts) k m (more b (above_trans u t ts b h)) (sym (e u.cre u.ann)))
    go rest (same p q) =
        let w : t.coeff ≡ u.coeff = sym (own_coeff t ts h) ∙ e t.cre t.ann ∙ ap₂ (λ (c a : ℕ). coeff_of c a (u ∷ us)) q p ∙ own_coeff u us k in
        let z : t ≡ u = term_of p q w in
        ap₂ {C = List Term} (λ (x : Term) (y : List Term). x ∷ y) z
        (rest (λ c a. cancel (coeff_in c a t) (coeff_of c a ts) (coeff_of c a us)
        (sym (sum_cons (coeff_in c a) t ts) ∙ e c a ∙ sum_cons (coeff_in c a) u us ∙ ap (λ (x : Term). coeff_in c a x +ℤ coeff_of c a us) (sym z))))

-- two accepted records on one number of modes with the same coefficients are the same bytes
pub same_record : (o p : ℕ) (k l : List ℕ) → Small k → Small l → refusal_of o k ≡ unrefused → refusal_of p l ≡ unrefused
    → modes_of k ≡ modes_of l → ((c a : ℕ) → coeff_of c a (terms_of k) ≡ coeff_of c a (terms_of l)) → k ≡ l
same_record o p k l sk sl ek el m e =
    let x = accepted_canonical o k ek in
    let y = accepted_canonical p l el in
    same_bytes o p k l sk sl ek el m (same_terms (terms_of k) (terms_of l) x.ascending y.ascending x.nonzero y.nonzero e)
