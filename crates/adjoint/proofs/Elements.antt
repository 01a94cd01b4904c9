-- The elements of the adjoint are those of the operator with bra and ket exchanged.
use mathlib.Core.Path.{◌≡◌, refl, sym, ap, ◌∙◌}
use mathlib.Core.Bool.{Bool, true, false, cond}
use mathlib.Core.List.{List, map}
use Prim.Native.Nat.{ℕ, ◌+◌}
use native.Mathlib.Omega.{arith}
use lib.Dec.{eqb}
use lib.IntN.{ℤ, pos, neg_ℤ-neg_ℤ}
use borrow.Author.Tests.{eq-eqb, eqb-true, eqb-false}
use Rattle.modes.specs.Bools.{◌⊕◌}
use Rattle.modes.specs.Words.{bit}
use Rattle.modes.specs.Counts.{parity, count, pairs}
use Rattle.modes.specs.declared.Term.{Term}
use Rattle.modes.specs.Every.{Every}
use Rattle.modes.proofs.Every.{every_implies, sum_same}
use Rattle.modes.proofs.Sums.{sum_map}
use Rattle.lent.specs.Rows.{Fit}
use Rattle.products.specs.PhaseRule.{Outcome, gone, went, term}
use Rattle.products.specs.Operators.{signed, adds, part, element}
use Rattle.products.specs.Apply.{apply_result_of}
use Rattle.products.proofs.Applying.{swapped_restores}
use Rattle.products.proofs.Outcomes.{went_where_applied}
use Rattle.normal.proofs.Totals.{element_normal}
use Rattle.adjoint.specs.Adjoint.{odd_pairs, adjoint_term, adjoint_terms}

-- ---- the swapped term restores the ket

back : (t : Term) → Fit t → (ket w : ℕ) (s : Bool) → term t.cre t.ann (went ket false) ≡ went w s
    → term t.ann t.cre (went w false) ≡ went ket (s ⊕ odd_pairs t)
unfolding odd_pairs
back t f ket w s e =
    went_where_applied t.ann t.cre w ket _ (swapped_restores t.cre t.ann ket f.cre f.ann w (record { 0 = s }) (ap (apply_result_of _) e))

back_adjoint : (t : Term) → Fit t → (ket w : ℕ) (s : Bool) → term t.ann t.cre (went ket false) ≡ went w s
    → term t.cre t.ann (went w false) ≡ went ket (s ⊕ parity (pairs (count 64 (bit t.ann)) + pairs (count 64 (bit t.cre))))
back_adjoint t f ket w s e =
    went_where_applied t.cre t.ann w ket _ (swapped_restores t.ann t.cre ket f.ann f.cre w (record { 0 = s }) (ap (apply_result_of _) e))

-- ---- one term

signs_cancel : (s p : Bool) (z : ℤ) → signed (s ⊕ p) (signed p z) ≡ signed s z
unfolding ◌⊕◌
signs_cancel true true z = refl
signs_cancel true false z = refl
signs_cancel false true z = neg_ℤ-neg_ℤ z
signs_cancel false false z = refl

part_adjoint : (bra ket : ℕ) (t : Term) → Fit t → part bra ket (adjoint_term t) ≡ part ket bra t
unfolding adjoint_term
part_adjoint bra ket t f = go _ _ refl refl
  where
    -- what does not come from the bra does not go there
    none_there : (o : Outcome) → term t.ann t.cre (went ket false) ≡ o → ((s : Bool) → term t.cre t.ann (went bra false) ≡ went ket s → ⊥)
        → adds bra (signed (odd_pairs t) t.coeff) o ≡ pos 0
    none_there gone e n = refl
    none_there (went w s) e n = at (eqb w bra) refl
      where
        at : (b : Bool) → eqb w bra ≡ b → cond b (signed s (signed (odd_pairs t) t.coeff)) (pos 0) ≡ pos 0
        at true q = absurd (n _ (ap (λ (x : ℕ). term t.cre t.ann (went x false)) (sym (eqb-true w bra q)) ∙ back_adjoint t f ket w s e))
        at false q = refl

    go : (x y : Outcome) → term t.cre t.ann (went bra false) ≡ x → term t.ann t.cre (went ket false) ≡ y
        → adds bra (signed (odd_pairs t) t.coeff) y ≡ adds ket t.coeff x
    go gone y p q = none_there y q (λ s e. let c : ◌≡◌ {A = Outcome} gone (went ket s) = sym p ∙ e in let u : ◌≡◌ {A = ℕ} 0 1 = cc in omega arith)
    go (went w s) y p q = at (eqb w ket) refl
      where
        at : (b : Bool) → eqb w ket ≡ b → adds bra (signed (odd_pairs t) t.coeff) y ≡ cond b (signed s t.coeff) (pos 0)
        at true e =
            let there : y ≡ went bra (s ⊕ odd_pairs t) =
            sym q ∙ ap (λ (x : ℕ). term t.ann t.cre (went x false)) (sym (eqb-true w ket e)) ∙ back t f bra w s p in
            rw (there, eq-eqb bra bra refl) (signs_cancel s (odd_pairs t) t.coeff)
        at false e =
            none_there y q (λ r k. let c : ◌≡◌ {A = Outcome} (went w s) (went ket r) = sym p ∙ k in let u : w ≡ ket = cc in eqb-false w ket e u)

-- ---- the operator

pub element_adjoint : (bra ket : ℕ) (ts : List Term) → Every Fit ts → element bra ket (adjoint_terms ts) ≡ element ket bra ts
element_adjoint bra ket ts f =
    element_normal bra ket (map adjoint_term ts) ∙ sum_map (part bra ket) adjoint_term ts
    ∙ sum_same (λ t. part bra ket (adjoint_term t)) (part ket bra) ts (every_implies ts (part_adjoint bra ket) f)
