-- The rows of all pairs: as many as the branches, and at any two words no heavier than the product of the two weights, twice where both orders count.
use mathlib.Core.Path.{◌≡◌, refl, sym, ap, ap₂, ◌∙◌, fun_ext}
use mathlib.Core.Bool.{Bool, true, false, cond, ◌&&◌}
use mathlib.Core.List.{List, [], ◌∷◌}
use Prim.Native.Nat.{ℕ, ◌+◌, ◌*◌, ◌^◌, ◌≤◌}
use native.Mathlib.Nat.{mul-add, mul_assoc, mul_comm}
use native.Mathlib.Omega.{arith}
use lib.Dec.{eqb}
use lib.IntN.{ℤ, pos, nat_abs, ◌*ℤ◌}
use lib.ListN.{length, length-append}
use borrow.Author.Tests.{eqb-true}
use Rattle.modes.specs.Counts.{count}
use Rattle.modes.specs.Sums.{sum_by, amount_of, list_of}
use Rattle.modes.specs.declared.Term.{Term}
use Rattle.modes.specs.Every.{Every, none, more, Pairwise, nothing, beside}
use Rattle.integers.proofs.SignedNumbers.{abs_product}
use Rattle.modes.proofs.Sums.{Respects, sum_through, natural_numbers, by_both_orders, length_respects}
use Rattle.products.specs.Operators.{signed}
use Rattle.products.specs.Product.{Other, not_empty, branching, rows_times}
use Rattle.products.proofs.Multiplied.{rows_none, rows_number}
use Rattle.products.proofs.ProductTheorems.{rows_differ, rows_size}
use Rattle.products.proofs.Signs.{abs_signed}
use Rattle.record.specs.Terms.{weight}
use Rattle.collect.specs.KeyWeights.{key_weight, Light}
use Rattle.collect.proofs.KeyWeights.{weight_append}
use Rattle.pairs.specs.Products.{pair_rows, rows_with, all_rows, branches_of, all_branches}

-- ---- the branches

rows_branches : (t u : Term) (z : ℤ) → length (rows_times t.cre t.ann u.cre u.ann z) ≡ branches_of t u
rows_branches t u z = go (not_empty t.cre t.ann u.cre u.ann) refl
  where
    go : (b : Bool) → not_empty t.cre t.ann u.cre u.ann ≡ b
        → length (rows_times t.cre t.ann u.cre u.ann z) ≡ cond b (2 ^ count 64 (branching t.cre t.ann u.cre u.ann)) 0
    go true e = rows_number t.cre t.ann u.cre u.ann z e
    go false e = ap length (rows_none t.cre t.ann u.cre u.ann z e)

pair_branches : (both minus : Bool) (t u : Term) → length (pair_rows both minus t u) ≡ branches_of t u + cond both (branches_of u t) 0
unfolding pair_rows
pair_branches both minus t u =
    length-append (rows_times t.cre t.ann u.cre u.ann (t.coeff *ℤ u.coeff))
    (cond both (rows_times u.cre u.ann t.cre t.ann (signed minus (t.coeff *ℤ u.coeff))) [])
    ∙ ap₂ (λ (x y : ℕ). x + y) (rows_branches t u (t.coeff *ℤ u.coeff)) (at both)
  where
    at : (b : Bool) → length (cond b (rows_times u.cre u.ann t.cre t.ann (signed minus (t.coeff *ℤ u.coeff))) []) ≡ cond b (branches_of u t) 0
    at true = rows_branches u t (signed minus (t.coeff *ℤ u.coeff))
    at false = refl

other_respects : (both : Bool) → Respects ◌+◌ 0 ◌+◌ 0 (λ (n : ℕ). cond both n 0)
other_respects true = record { none = refl; add = λ x y. refl }
other_respects false = record { none = refl; add = λ x y. refl }

pub all_branches_is : (both minus : Bool) (ts us : List Term) → length (all_rows both minus ts us) ≡ all_branches both ts us
unfolding all_branches
all_branches_is both minus ts us =
    sum_through length_respects (λ t. rows_with both minus t us) ts
    ∙ ap (λ (f : Term → ℕ). amount_of f ts)
    (fun_ext (λ t. sum_through length_respects (pair_rows both minus t) us ∙ ap (λ (f : Term → ℕ). amount_of f us) (fun_ext (pair_branches both minus t))))
    ∙ by_both_orders natural_numbers (other_respects both) branches_of ts us

-- ---- the weight at two words

-- one of rows that all differ has the words, at most
module _ (cre ann : ℕ) where
  apart : (t : Term) (rs : List Term) → t.cre ≡ cre → t.ann ≡ ann → Every (Other t) rs → key_weight cre ann rs ≡ 0
  unfolding key_weight
  apart t [] ec ea none = refl
  apart t (r ∷ rs) ec ea (more h hs) = omega (arith, go (eqb r.ann ann) (eqb r.cre cre) refl refl, apart t rs ec ea hs)
    where
      go : (x y : Bool) → eqb r.ann ann ≡ x → eqb r.cre cre ≡ y → nat_abs (cond (x && y) r.coeff (pos 0)) ≡ 0
      go true true p q = absurd (h (ec ∙ sym (eqb-true _ _ q)) (ea ∙ sym (eqb-true _ _ p)))
      go true false p q = refl
      go false y p q = refl

  one_weighs : (n : ℕ) (rs : List Term) → Pairwise Other rs → Every (λ r. nat_abs r.coeff ≤ n) rs → key_weight cre ann rs ≤ n
  unfolding key_weight
  one_weighs n [] nothing none = omega arith
  one_weighs n (r ∷ rs) (beside d ds) (more h hs) = go (one_weighs n rs ds hs) (eqb r.ann ann) (eqb r.cre cre) refl refl
    where
      go : key_weight cre ann rs ≤ n → (x y : Bool) → eqb r.ann ann ≡ x → eqb r.cre cre ≡ y
          → nat_abs (cond (x && y) r.coeff (pos 0)) + key_weight cre ann rs ≤ n
      go later true true p q = omega (arith, h, apart r rs (eqb-true _ _ q) (eqb-true _ _ p) d)
      go later true false p q = omega (arith, later)
      go later false y p q = omega (arith, later)

  product_weighs : (Lc La Rc Ra : ℕ) (z : ℤ) → key_weight cre ann (rows_times Lc La Rc Ra z) ≤ nat_abs z
  product_weighs Lc La Rc Ra z = one_weighs (nat_abs z) (rows_times Lc La Rc Ra z) (rows_differ Lc La Rc Ra z) (rows_size Lc La Rc Ra z)

  -- lists that weigh no more than c times the coefficients of the terms that they come from
  listed_weighs : (c : ℕ) (f : Term → List Term) → ((t : Term) → key_weight cre ann (f t) ≤ c * nat_abs t.coeff) → (ts : List Term)
      → key_weight cre ann (list_of f ts) ≤ c * weight ts
  unfolding sum_by key_weight weight
  listed_weighs c f h [] = omega arith
  listed_weighs c f h (t ∷ ts) =
      omega (arith, weight_append cre ann (f t) (list_of f ts), h t, listed_weighs c f h ts, mul-add c (nat_abs t.coeff) (weight ts))

  module _ (both minus : Bool) where
    pair_weighs : (t u : Term) → key_weight cre ann (pair_rows both minus t u) ≤ 2 * nat_abs t.coeff * nat_abs u.coeff
    unfolding pair_rows key_weight
    pair_weighs t u =
        omega (
          arith,
          weight_append cre ann (rows_times t.cre t.ann u.cre u.ann (t.coeff *ℤ u.coeff))
              (cond both (rows_times u.cre u.ann t.cre t.ann (signed minus (t.coeff *ℤ u.coeff))) []),
          product_weighs t.cre t.ann u.cre u.ann (t.coeff *ℤ u.coeff),
          at both,
          abs_product t.coeff u.coeff,
          mul_assoc 2 (nat_abs t.coeff) (nat_abs u.coeff),
        )
      where
        at : (b : Bool) → key_weight cre ann (cond b (rows_times u.cre u.ann t.cre t.ann (signed minus (t.coeff *ℤ u.coeff))) [])
            ≤ nat_abs (t.coeff *ℤ u.coeff)
        at true = rw (abs_signed minus (t.coeff *ℤ u.coeff)) at (product_weighs u.cre u.ann t.cre t.ann (signed minus (t.coeff *ℤ u.coeff)))
        at false = omega arith

    all_weighs : (ts us : List Term) → key_weight cre ann (all_rows both minus ts us) ≤ 2 * weight us * weight ts
    all_weighs ts us =
        listed_weighs (2 * weight us) (λ t. rows_with both minus t us)
        (λ t. rw (swap (weight us) (nat_abs t.coeff)) (listed_weighs (2 * nat_abs t.coeff) (pair_rows both minus t) (pair_weighs t) us)) ts
      where
        swap : (v w : ℕ) → 2 * v * w ≡ 2 * w * v
        swap v w = omega (arith, mul_assoc 2 v w, mul_assoc 2 w v, mul_comm v w)

pub all_light : (both minus : Bool) (ts us : List Term) → weight ts * weight us ≤ 2 ^ 60 → Light (all_rows both minus ts us)
all_light both minus ts us h cre ann = omega (arith, all_weighs cre ann both minus ts us, mul_assoc 2 (weight us) (weight ts), mul_comm (weight us) (weight ts))
