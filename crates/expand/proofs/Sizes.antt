-- The rows of a line: how many, how heavy, which modes they hold, and that they fit.
use mathlib.Core.Path.{◌≡◌, refl, sym, ap, ◌∙◌}
use mathlib.Core.Bool.{Bool, true, false, not, cond, true≢false}
use mathlib.Core.List.{List, [], ◌∷◌, ◌++◌}
use Prim.Native.Nat.{ℕ, ◌+◌, ◌*◌, ◌^◌, ◌≤◌, ◌<◌}
use native.Mathlib.Nat.{le_refl, le_trans, lt_of_le_of_lt, zero-add, pow-suc, mul-suc, mul-le-mul_left}
use native.Mathlib.Omega.{arith}
use lib.Pow.{pow_pos, pow_mono}
use lib.IntN.{nat_abs}
use lib.ListN.{length, length-append}
use Rattle.modes.specs.Words.{bit}
use Rattle.modes.specs.Counts.{count}
use Rattle.modes.specs.Sums.{sum_by, amount_of, list_of}
use Rattle.modes.specs.Every.{Every, none, more}
use Rattle.modes.specs.declared.Term.{Term}
use Rattle.modes.proofs.Bools.{and_l, and_r}
use Rattle.modes.proofs.Digits.{bit_none}
use Rattle.modes.proofs.Counts.{count_mono}
use Rattle.modes.proofs.Single.{count_most}
use Rattle.modes.proofs.Every.{every_implies, every_both, every_list}
use Rattle.modes.proofs.Sums.{Respects, sum_through, length_respects}
use Rattle.integers.proofs.SignedNumbers.{abs_fits}
use Rattle.lent.specs.Rows.{Fit}
use Rattle.products.specs.Product.{not_empty, branching}
use Rattle.products.proofs.Multiplied.{rows_none, rows_number as product_number}
use Rattle.products.proofs.ProductTheorems.{rows_within, rows_size as product_size}
use Rattle.record.specs.Terms.{weight}
use Rattle.record.specs.Canonical.{Inside}
use Rattle.lines.specs.Grammar.{Ladder, Line}
use Rattle.lines.specs.Refusals.{all_below}
use Rattle.expand.specs.Rows.{creation, annihilation, rows_with, rows_after, plain, rows_of}
use Rattle.expand.proofs.Ladders.{first_below, later_below, creation_small, annihilation_small}

-- ---- how many

-- a ladder branches at its own mode alone
pub branches_at : (c a p : ℕ) (x : Ladder) → branching c a (creation x) (annihilation x) p ≡ true → bit (2 ^ x.mode) p ≡ true
branches_at c a p x e =
    let created = and_r (bit a p) (bit (creation x) p) (and_l _ (not (bit c p)) (and_l _ (not (bit (annihilation x) p)) e)) in go x.needs created
  where
    go : (needs : Bool) → bit (cond needs 0 (2 ^ x.mode)) p ≡ true → bit (2 ^ x.mode) p ≡ true
    go true h = absurd (true≢false (sym h ∙ bit_none p))
    go false h = h

few_rows : (t : Term) (x : Ladder) → length (rows_with t x) ≤ 2
few_rows t x = go (not_empty t.cre t.ann (creation x) (annihilation x)) refl
  where
    few : count 64 (branching t.cre t.ann (creation x) (annihilation x)) ≤ 1
    few = le_trans (count_mono 64 _ (bit (2 ^ x.mode)) (λ p. branches_at t.cre t.ann p x)) (count_most 64 x.mode)

    go : (b : Bool) → not_empty t.cre t.ann (creation x) (annihilation x) ≡ b → length (rows_with t x) ≤ 2
    go true e = omega (arith, product_number t.cre t.ann (creation x) (annihilation x) t.coeff e, pow_mono few)
    go false e = omega (arith, ap length (rows_none t.cre t.ann (creation x) (annihilation x) t.coeff e))

-- lists of at most n entries each
listed_number : {A B : Type 0} (n : ℕ) (f : A → List B) → ((x : A) → length (f x) ≤ n) → (l : List A) → length (list_of f l) ≤ n * length l
unfolding sum_by
listed_number n f h [] = omega arith
listed_number n f h (x ∷ l) = omega (arith, length-append (f x) (list_of f l), h x, listed_number n f h l, mul-suc n (length l))

pub rows_number : (t : Term) (xs : List Ladder) → length (rows_after t xs) ≤ 2 ^ length xs
unfolding rows_after
rows_number t [] = le_refl 1
rows_number t (x ∷ xs) =
    omega (
      arith,
      listed_number (2 ^ length xs) (λ u. rows_after u xs) (λ u. rows_number u xs) (rows_with t x),
      mul-le-mul_left (2 ^ length xs) (few_rows t x),
      pow-suc 2 (length xs),
    )

-- ---- how heavy

pub rows_size : (t : Term) (xs : List Ladder) → Every (λ r. nat_abs r.coeff ≤ nat_abs t.coeff) (rows_after t xs)
unfolding rows_after
rows_size t [] = more (le_refl (nat_abs t.coeff)) none
rows_size t (x ∷ xs) =
    every_list (λ u. rows_after u xs) (rows_with t x) (λ u h. every_implies (rows_after u xs) (λ r k. le_trans k h) (rows_size u xs))
    (product_size t.cre t.ann (creation x) (annihilation x) t.coeff)

weight_most : (n : ℕ) (ts : List Term) → Every (λ t. nat_abs t.coeff ≤ n) ts → weight ts ≤ n * length ts
unfolding weight
weight_most n [] none = omega arith
weight_most n (t ∷ ts) (more h hs) = omega (arith, h, weight_most n ts hs, mul-suc n (length ts))

pub rows_weight : (t : Term) (xs : List Ladder) → weight (rows_after t xs) ≤ nat_abs t.coeff * 2 ^ length xs
rows_weight t xs = le_trans (weight_most (nat_abs t.coeff) (rows_after t xs) (rows_size t xs)) (mul-le-mul_left (nat_abs t.coeff) (rows_number t xs))

-- ---- which modes

module _ (m : ℕ) where
  -- words below 2^m stay so
  rows_below : (t : Term) (xs : List Ladder) → t.ann < 2 ^ m → t.cre < 2 ^ m → all_below m xs ≡ true
      → Every (λ r. (r.ann < 2 ^ m) × (r.cre < 2 ^ m)) (rows_after t xs)
  unfolding rows_after
  rows_below t [] ha hc h = more (ha, hc) none
  rows_below t (x ∷ xs) ha hc h =
      let small = first_below m x xs h in
      every_list (λ u. rows_after u xs) (rows_with t x) (λ u k. rows_below u xs k.0 k.1 (later_below m x xs h))
      (rows_within t.cre t.ann (creation x) (annihilation x) m hc ha (creation_small m x small) (annihilation_small m x small) t.coeff)

  pub rows_inside : (t : Term) (xs : List Ladder) → Inside m t → all_below m xs ≡ true → Every (Inside m) (rows_after t xs)
  rows_inside t xs k h = every_implies (rows_after t xs) (λ r s. record { ann = s.0; cre = s.1 }) (rows_below t xs k.ann k.cre h)

-- ---- in 64 bits

pub rows_fit : (t : Term) (xs : List Ladder) → t.ann < 2 ^ 64 → t.cre < 2 ^ 64 → nat_abs t.coeff < 2 ^ 63 → all_below 64 xs ≡ true → Every Fit (rows_after t xs)
rows_fit t xs ha hc hz h =
    every_implies (rows_after t xs) (λ r s. record { ann = s.0.0; cre = s.0.1; coeff = abs_fits r.coeff (lt_of_le_of_lt s.1 hz) })
    (every_both (rows_after t xs) (rows_below 64 t xs ha hc h) (rows_size t xs))

-- ---- over all lines

-- amounts that are no larger, one by one, have no larger sum
amount_up : {A : Type 0} (f g : A → ℕ) → ((x : A) → f x ≤ g x) → (l : List A) → amount_of f l ≤ amount_of g l
unfolding sum_by
amount_up f g h [] = le_refl 0
amount_up f g h (x ∷ l) = omega (arith, h x, amount_up f g h l)

weight_append : (ts us : List Term) → weight (ts ++ us) ≡ weight ts + weight us
unfolding weight
weight_append [] us = sym (zero-add (weight us))
weight_append (t ∷ ts) us = omega (arith, weight_append ts us)

weight_respects : Respects ◌++◌ [] ◌+◌ 0 weight
unfolding weight
weight_respects = record { none = refl; add = weight_append }

pub lines_number : (xs : List Line) → length (list_of rows_of xs) ≤ amount_of (λ x. 2 ^ length x.ladders) xs
lines_number xs = rw (sum_through length_respects rows_of xs) (amount_up _ _ (λ x. rows_number (plain x.coeff) x.ladders) xs)

pub lines_weight : (xs : List Line) → weight (list_of rows_of xs) ≤ amount_of (λ x. nat_abs x.coeff * 2 ^ length x.ladders) xs
lines_weight xs = rw (sum_through weight_respects rows_of xs) (amount_up _ _ (λ x. rows_weight (plain x.coeff) x.ladders) xs)

pub lines_inside : (m : ℕ) (xs : List Line) → Every (λ x. all_below m x.ladders ≡ true) xs → Every (Inside m) (list_of rows_of xs)
lines_inside m xs = every_list rows_of xs (λ x. rows_inside m (plain x.coeff) x.ladders (record { ann = pow_pos m; cre = pow_pos m }))
