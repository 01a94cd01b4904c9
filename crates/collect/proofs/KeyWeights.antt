-- The weight of one pair of words bounds its coefficient, and of fewer rows it is no more.
use mathlib.Core.Path.{◌≡◌}
use mathlib.Core.List.{List, [], ◌∷◌, ◌++◌}
use Prim.Native.Nat.{ℕ, zero, suc, ◌+◌, ◌≤◌}
use native.Mathlib.Omega.{arith}
use lib.IntN.{nat_abs}
use Rattle.modes.specs.Sums.{sum_of}
use Rattle.modes.specs.declared.Term.{Term}
use Rattle.modes.proofs.Sums.{natural_numbers, by_append}
use Rattle.lent.specs.Rows.{rows_at}
use Rattle.integers.proofs.SignedNumbers.{abs_sum}
use Rattle.record.specs.Coefficients.{coeff_in, coeff_of}
use Rattle.collect.specs.KeyWeights.{key_weight}

pub coeff_below : (cre ann : ℕ) (ts : List Term) → nat_abs (coeff_of cre ann ts) ≤ key_weight cre ann ts
unfolding sum_of key_weight
coeff_below cre ann [] = omega arith
coeff_below cre ann (t ∷ ts) =
    let g = coeff_below cre ann ts in
    let h = abs_sum (coeff_in cre ann t) (coeff_of cre ann ts) in
    omega arith

pub weight_append : (cre ann : ℕ) (ts us : List Term) → key_weight cre ann (ts ++ us) ≡ key_weight cre ann ts + key_weight cre ann us
unfolding key_weight
weight_append cre ann = by_append natural_numbers (λ t. nat_abs (coeff_in cre ann t))

pub weight_end : (cre ann : ℕ) (ts : List Term) (t : Term) → key_weight cre ann (ts ++ (t ∷ [])) ≡ key_weight cre ann ts + nat_abs (coeff_in cre ann t)
unfolding key_weight
weight_end cre ann ts t = let g = weight_append cre ann ts (t ∷ []) in omega arith

pub weight_up : (cre ann : ℕ) (l : List ℕ) (o i n : ℕ) → i ≤ n → key_weight cre ann (rows_at l o i) ≤ key_weight cre ann (rows_at l o n)
unfolding key_weight rows_at
weight_up cre ann l o zero n h = omega arith
weight_up cre ann l o (suc i) zero h = absurd (omega arith)
weight_up cre ann l o (suc i) (suc n) h = let g = weight_up cre ann l (o + 24) i n (omega arith) in omega arith
