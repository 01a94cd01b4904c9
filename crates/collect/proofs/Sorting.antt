-- The rows sorted: they are in order, and neither their coefficients nor their weights change.
use mathlib.Core.Path.{◌≡◌, refl, sym, ap, ◌∙◌, subst}
use mathlib.Core.List.{List}
use Prim.Native.Nat.{ℕ, ◌+◌, ◌*◌, ◌≤◌}
use native.Mathlib.Nat.{zero-add}
use native.Mathlib.Omega.{arith}
use lib.IntN.{ℤ, pos, nat_abs, ◌+ℤ◌}
use lib.ListN.{length}
use Rattle.modes.specs.declared.Term.{Term}
use Rattle.modes.proofs.Sums.{sum_through}
use Rattle.lent.specs.Rows.{row_at, rows_at}
use Rattle.lent.proofs.RowLaws.{length_rows_at}
use Rattle.places.specs.declared.Places.{Places}
use Rattle.places.specs.Order.{key}
use Rattle.places.specs.Places.{row_places, term_in}
use Rattle.modes.specs.Sums.{sum_of}
use Rattle.quicksort.specs.Sorted.{Sorted}
use Rattle.places.proofs.Layouts.{term_row, terms_rows}
use Rattle.quicksort.proofs.SortedTerms.{arranged, sum_kept, sorted_ascending, rows_around}
use Rattle.record.specs.Coefficients.{coeff_in, coeff_of}
use Rattle.normal.proofs.Normal.{normal_same}
use Rattle.collect.specs.KeyWeights.{key_weight, Light}
use Rattle.collect.specs.Collected.{Collected}
use Rattle.collect.specs.Steps.{InOrder}
use Rattle.collect.proofs.Closing.{same_from}

-- the weight as a sum of whole numbers
weight_sum : (cre ann : ℕ) (ts : List Term) → pos (key_weight cre ann ts) ≡ sum_of (λ t. pos (nat_abs (coeff_in cre ann t))) ts
unfolding sum_of key_weight
weight_sum cre ann = sum_through {op = ◌+◌} {to = ◌+ℤ◌} {h = pos} (record { none = refl; add = λ x y. refl }) (λ t. nat_abs (coeff_in cre ann t))

module _ (n : ℕ) (l m : List ℕ) (places : Places) (front : places ≡ row_places 0) (sorted : Sorted places n l m) where
  in_rows_is : Sorted (row_places 0) n l m
  in_rows_is = subst (λ (p : Places). Sorted p n l m) front sorted

  rows_sum : (w : Term → ℤ) → sum_of w (rows_at m 0 n) ≡ sum_of w (rows_at l 0 n)
  rows_sum w = sum_kept (length_rows_at l 0 n) (length_rows_at m 0 n) (rw (terms_rows 0 l n, terms_rows 0 m n) at (arranged in_rows_is)) w

  sorted_coeff : (cre ann : ℕ) → coeff_of cre ann (rows_at m 0 n) ≡ coeff_of cre ann (rows_at l 0 n)
  sorted_coeff cre ann = rows_sum (coeff_in cre ann)

  sorted_weight : (cre ann : ℕ) → key_weight cre ann (rows_at m 0 n) ≡ key_weight cre ann (rows_at l 0 n)
  sorted_weight cre ann =
      ap nat_abs (weight_sum cre ann (rows_at m 0 n) ∙ rows_sum (λ t. pos (nat_abs (coeff_in cre ann t))) ∙ sym (weight_sum cre ann (rows_at l 0 n)))

  sorted_order : InOrder m n
  sorted_order k h =
      let a = sorted_ascending in_rows_is k h in
      let x = ap key (row k) in
      let y = ap key (row (k + 1)) in
      omega arith
    where
      row : (j : ℕ) → term_in (row_places 0) m j ≡ row_at m (24 * j)
      row j = term_row 0 m j ∙ ap (row_at m) (zero-add (24 * j))

  pub sorted_fit : 24 * n ≤ length l → Light (rows_at l 0 n) → (24 * n ≤ length m) × InOrder m n × Light (rows_at m 0 n)
  sorted_fit h light = (rw in_rows_is.kept.len h, sorted_order, λ cre ann. rw (sorted_weight cre ann) (light cre ann))

  pub collected : (m2 : List ℕ) (k : ℕ) → Collected n m m2 k → Collected n l m2 k
  collected m2 k c = record {
    count = c.count;
    len = c.len ∙ in_rows_is.kept.len;
    past = c.past ∙ same_from l m (0 + 24 * n) (24 * n) (omega arith) (rows_around 0 n l m in_rows_is).1;
    rows = c.rows ∙ normal_same (rows_at m 0 n) (rows_at l 0 n) sorted_coeff;
    fit = c.fit;
  }
