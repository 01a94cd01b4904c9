-- One ladder as a term: its two words hold its mode alone.
use mathlib.Core.Path.{◌≡◌, ap, ◌∙◌}
use mathlib.Core.Bool.{Bool, true, false, cond}
use mathlib.Core.List.{List, ◌∷◌}
use mathlib.Core.Logic.{◌⊎◌, inl, inr}
use Prim.Native.Nat.{ℕ, zero, suc, ◌^◌, ◌≤◌, ◌<◌}
use native.Mathlib.Nat.{not-suc-le-zero}
use native.Mathlib.Omega.{arith}
use lib.Dec.{ltb}
use lib.Pow.{pow_pos, pow-lt}
use borrow.Author.Tests.{ne_eqb, eq-eqb, ltb-true}
use Rattle.modes.specs.Words.{bit}
use Rattle.modes.proofs.Bools.{and_l, and_r}
use Rattle.modes.proofs.Digits.{lt_or_ge, bit_pow, bit_none}
use Rattle.products.specs.PhaseRule.{Outcome, creating, annihilating, ladder, ladders, term}
use Rattle.products.proofs.ClosedForm.{ladders_none}
use Rattle.lines.specs.Grammar.{Ladder}
use Rattle.lines.specs.Refusals.{all_below}
use Rattle.expand.specs.Rows.{creation, annihilation}

-- ---- modes below m, one ladder at a time

pub first_below : (m : ℕ) (x : Ladder) (xs : List Ladder) → all_below m (x ∷ xs) ≡ true → x.mode < m
unfolding all_below
first_below m x xs h = ltb-true x.mode m (and_l (ltb x.mode m) (all_below m xs) h)

pub later_below : (m : ℕ) (x : Ladder) (xs : List Ladder) → all_below m (x ∷ xs) ≡ true → all_below m xs ≡ true
unfolding all_below
later_below m x xs h = and_r (ltb x.mode m) (all_below m xs) h

-- ---- a ladder as a term

-- the ladders of one mode are one ladder
ladders_one : (needs : Bool) (k p : ℕ) (o : Outcome) → p < k → ladders needs k (2 ^ p) o ≡ ladder needs p o
unfolding ladders
ladders_one needs zero p o l = absurd (not-suc-le-zero l)
ladders_one needs (suc j) p o l = go (ladders_one needs j p o) (lt_or_ge p j)
  where
    go : (p < j → ladders needs j (2 ^ p) o ≡ ladder needs p o) → (p < j) ⊎ (j ≤ p)
        → ladders needs j (2 ^ p) (cond (bit (2 ^ p) j) (ladder needs j o) o) ≡ ladder needs p o
    go rec (inl h) = rw (bit_pow p j, ne_eqb j p (λ e. omega arith)) (rec h)
    go rec (inr h) =
        let same : j ≡ p = omega arith in
        rw (bit_pow p j, eq-eqb j p same, same) (ladders_none needs p (2 ^ p) (ladder needs p o) (λ q m. bit_pow p q ∙ ne_eqb q p (λ e. omega arith)))

pub ladder_term : (x : Ladder) (o : Outcome) → x.mode < 64 → term (creation x) (annihilation x) o ≡ ladder x.needs x.mode o
unfolding term
ladder_term x o l = go x.needs
  where
    go : (needs : Bool) → ladders creating 64 (cond needs 0 (2 ^ x.mode)) (ladders annihilating 64 (cond needs (2 ^ x.mode) 0) o) ≡ ladder needs x.mode o
    go true = ladders_none creating 64 0 _ (λ p m. bit_none p) ∙ ladders_one annihilating 64 x.mode o l
    go false = ap (ladders creating 64 (2 ^ x.mode)) (ladders_none annihilating 64 0 o (λ p m. bit_none p)) ∙ ladders_one creating 64 x.mode o l

-- the words hold modes below m where the mode is
module _ (m : ℕ) (x : Ladder) (l : x.mode < m) where
  word_small : (b : Bool) → (cond b 0 (2 ^ x.mode) < 2 ^ m) × (cond b (2 ^ x.mode) 0 < 2 ^ m)
  word_small true = (pow_pos m, pow-lt l)
  word_small false = (pow-lt l, pow_pos m)

  pub creation_small : creation x < 2 ^ m
  creation_small = (word_small x.needs).0

  pub annihilation_small : annihilation x < 2 ^ m
  annihilation_small = (word_small x.needs).1
