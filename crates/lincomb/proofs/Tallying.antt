-- Terms counted and weighed one by one, wherever they come from; those with a zero coefficient are not counted.
use mathlib.Core.Path.{◌≡◌, refl, ap, ap₂, ◌∙◌}
use mathlib.Core.Bool.{Bool, true, false, cond}
use mathlib.Core.List.{List, [], ◌∷◌, map}
use Prim.Native.Nat.{ℕ, ◌+◌, ◌^◌, ◌≤◌}
use native.Mathlib.Omega.{arith}
use lib.Dec.{eqb}
use lib.IntN.{nat_abs}
use borrow.Author.Tests.{eqb-false}
use lib.ListN.{length}
use Rattle.modes.specs.declared.Term.{Term}
use Rattle.integers.proofs.SignedNumbers.{abs_sum}
use Rattle.products.proofs.Signs.{abs_signed}
use Rattle.record.specs.Terms.{before, weight}
use Rattle.record.proofs.Checking.{weight_front, weight_none}
use Rattle.normal.specs.Normal.{join, drop_zeros}
use Rattle.normal.proofs.Sizes.{drop_length, drop_weight, drop_none}
use Rattle.results.specs.Tallies.{Tallied}
use Rattle.lincomb.specs.Sums.{turn}
use Rattle.lincomb.specs.Merging.{merge, onward}

-- ---- what two records weigh together

weight_turn : (minus : Bool) (ts : List Term) → weight (map (turn minus) ts) ≡ weight ts
unfolding weight
weight_turn minus [] = refl
weight_turn minus (t ∷ ts) = ap₂ ◌+◌ (abs_signed minus t.coeff) (weight_turn minus ts)

weight_merge : (ts us : List Term) → weight (merge ts us) ≤ weight ts + weight us
unfolding merge weight join
weight_merge [] us = omega arith
weight_merge (t ∷ ts) [] = omega arith
weight_merge (t ∷ ts) (u ∷ us) = go (weight_merge ts (u ∷ us)) (weight_merge (t ∷ ts) us) (weight_merge ts us) (before t u) (before u t)
  where
    go : weight (merge ts (u ∷ us)) ≤ weight ts + weight (u ∷ us) → weight (merge (t ∷ ts) us) ≤ weight (t ∷ ts) + weight us
        → weight (merge ts us) ≤ weight ts + weight us → (x y : Bool)
        → weight (cond x (t ∷ merge ts (u ∷ us)) (cond y (u ∷ merge (t ∷ ts) us) (join t u ∷ merge ts us))) ≤ weight (t ∷ ts) + weight (u ∷ us)
    go a b c true y = omega (arith, a)
    go a b c false true = omega (arith, b)
    go a b c false false = omega (arith, c, abs_sum t.coeff u.coeff)

-- both are at most 2^60, so that no sum of magnitudes leaves 64 bits
pub light_together : (minus : Bool) (ts us : List Term) → weight ts ≤ 2 ^ 60 → weight us ≤ 2 ^ 60 → weight (onward minus ts 0 us 0) ≤ 2 ^ 61
light_together minus ts us h k = omega (arith, weight_merge ts (map (turn minus) us), weight_turn minus us)

-- ---- the count

-- what is kept weighs one at least
few : (ts : List Term) → length (drop_zeros ts) ≤ weight ts
unfolding drop_zeros weight
few [] = omega arith
few (t ∷ ts) = go (few ts) (eqb (nat_abs t.coeff) 0) refl
  where
    go : length (drop_zeros ts) ≤ weight ts → (b : Bool) → eqb (nat_abs t.coeff) 0 ≡ b
        → length (cond b (drop_zeros ts) (t ∷ drop_zeros ts)) ≤ nat_abs t.coeff + weight ts
    go h true e = omega arith
    go h false e = omega (arith, eqb-false _ _ e)

-- a walk over the terms of whole, with left to come: n counted so far, of weight w
pub record Tallying (whole left : List Term) (n w : ℕ) : Type 0 where
  pub terms : n + length (drop_zeros left) ≡ length (drop_zeros whole)
  pub weigh : w + weight left ≡ weight whole

pub tally_goes : (whole left rest : List Term) (n w : ℕ) → Tallying whole left n w → (t : Term) → left ≡ t ∷ rest → (k o : ℕ) → k ≡ nat_abs t.coeff
    → o ≡ cond (eqb k 0) 0 1 → Tallying whole rest (n + o) (w + k)
tally_goes whole left rest n w g t e k o ek eo =
    let len : length (drop_zeros left) ≡ o + length (drop_zeros rest) = ap (λ (z : List Term). length (drop_zeros z)) e ∙ drop_length t rest ∙ rw (eo, ek) in
    let split : weight left ≡ k + weight rest = weight_front left rest t e ∙ rw ek in
    record { terms = omega (arith, g.terms); weigh = omega (arith, g.weigh) }

-- what is counted weighs no more than all
pub tally_light : (whole left rest : List Term) (n w : ℕ) → Tallying whole left n w → (t : Term) → left ≡ t ∷ rest → w + nat_abs t.coeff ≤ weight whole
tally_light whole left rest n w g t e = omega (arith, g.weigh, weight_front left rest t e)

-- nor are they more
pub tally_few : (whole left : List Term) (n w : ℕ) → Tallying whole left n w → n ≤ weight whole
tally_few whole left n w g = omega (arith, g.terms, few whole)

pub tally_ends : (whole left : List Term) (n w : ℕ) → Tallying whole left n w → left ≡ [] → Tallied (drop_zeros whole) (record { terms = n; weight = w })
tally_ends whole left n w g e =
    let z : length (drop_zeros left) ≡ 0 = ap length (drop_none left e) in
    let y : weight left ≡ 0 = weight_none left e in
    record {
      terms = omega (arith, g.terms);
      light = λ q. omega (arith, g.weigh, drop_weight whole);
      heavy = λ q. omega (arith, g.weigh, drop_weight whole);
    }
