-- The elements of the rows of all pairs: those that the second operator and then the first give, ladder by ladder, and those of the other order with its sign.
use mathlib.Core.Path.{◌≡◌, refl, ap, ap₂, ◌∙◌}
use mathlib.Core.Bool.{Bool, true, false, cond}
use mathlib.Core.List.{List, []}
use Prim.Native.Nat.{ℕ}
use lib.IntN.{ℤ, pos, ◌+ℤ◌, ◌*ℤ◌, *ℤ_comm}
use Rattle.modes.specs.Sums.{sum_of}
use Rattle.modes.specs.declared.Term.{Term}
use Rattle.modes.proofs.Sums.{sum_append, Respects, sum_through, whole_numbers, by_both_orders, sum_respects}
use Rattle.modes.specs.Every.{Every}
use Rattle.modes.proofs.Every.{every_implies, sum_same}
use Rattle.products.specs.PhaseRule.{went, term}
use Rattle.products.specs.Operators.{signed, adds, part, element}
use Rattle.products.specs.Product.{rows_times}
use Rattle.products.proofs.ProductActs.{product_acts}
use Rattle.record.specs.Canonical.{Inside}
use Rattle.products.proofs.Signs.{signed_add, signed_zero, adds_signed}
use Rattle.pairs.specs.Products.{pair_rows, rows_with, all_rows, pair_in_succession, in_succession}

-- ---- the other order's part: nothing, or with its sign

module _ (both minus : Bool) where
  unfoldable pub other : ℤ → ℤ
  other x = cond both (signed minus x) (pos 0)

  other_respects : Respects ◌+ℤ◌ (pos 0) ◌+ℤ◌ (pos 0) other
  unfolding other
  other_respects = go both
    where
      go : (b : Bool) → Respects ◌+ℤ◌ (pos 0) ◌+ℤ◌ (pos 0) (λ (x : ℤ). cond b (signed minus x) (pos 0))
      go true = record { none = signed_zero minus; add = signed_add minus }
      go false = record { none = refl; add = λ x y. refl }

-- ---- one pair of terms, and all

module _ (bra ket : ℕ) (both minus : Bool) where
  -- the words of both terms are of 64 modes
  pair_elements : (t u : Term) → Inside 64 t → Inside 64 u
      → element bra ket (pair_rows both minus t u) ≡ pair_in_succession bra ket t u +ℤ other both minus (pair_in_succession bra ket u t)
  unfolding pair_rows other sum_of
  pair_elements t u ht hu =
      sum_append (part bra ket) (rows_times t.cre t.ann u.cre u.ann (t.coeff *ℤ u.coeff))
      (cond both (rows_times u.cre u.ann t.cre t.ann (signed minus (t.coeff *ℤ u.coeff))) [])
      ∙ ap₂ (λ (x y : ℤ). x +ℤ y) (product_acts t.cre t.ann u.cre u.ann ht.cre ht.ann hu.cre hu.ann bra ket (t.coeff *ℤ u.coeff)) (go both)
    where
      go : (b : Bool) → element bra ket (cond b (rows_times u.cre u.ann t.cre t.ann (signed minus (t.coeff *ℤ u.coeff))) []) ≡ cond b
          (signed minus (pair_in_succession bra ket u t)) (pos 0)
      go true =
          product_acts u.cre u.ann t.cre t.ann hu.cre hu.ann ht.cre ht.ann bra ket (signed minus (t.coeff *ℤ u.coeff))
          ∙ ap (λ (z : ℤ). adds bra (signed minus z) (term u.cre u.ann (term t.cre t.ann (went ket false)))) (*ℤ_comm t.coeff u.coeff)
          ∙ adds_signed bra minus (u.coeff *ℤ t.coeff) (term u.cre u.ann (term t.cre t.ann (went ket false)))
      go false = refl

  pub all_elements : (ts us : List Term) → Every (Inside 64) ts → Every (Inside 64) us
      → element bra ket (all_rows both minus ts us) ≡ in_succession bra ket ts us +ℤ other both minus (in_succession bra ket us ts)
  unfolding sum_of
  all_elements ts us hts hus =
      sum_through (sum_respects (part bra ket)) (λ t. rows_with both minus t us) ts
      ∙ sum_same _ _ ts (every_implies ts by_terms hts)
      ∙ by_both_orders whole_numbers (other_respects both minus) (pair_in_succession bra ket) ts us
    where
      by_terms : (t : Term) → Inside 64 t
          → element bra ket (rows_with both minus t us) ≡ sum_of (λ u. pair_in_succession bra ket t u +ℤ other both minus (pair_in_succession bra ket u t)) us
      by_terms t ht = sum_through (sum_respects (part bra ket)) (pair_rows both minus t) us ∙ sum_same _ _ us (every_implies us (λ u. pair_elements t u ht) hus)
