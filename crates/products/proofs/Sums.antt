-- Sums over the sets of branching modes: two that agree on the parts, and the alternating one.
use mathlib.Core.Path.{◌≡◌, refl, sym, ap, ap₂, ◌∙◌}
use mathlib.Core.Bool.{Bool, true, false, not, cond, ◌&&◌, ◌||◌, and-true}
use mathlib.Core.List.{◌++◌}
use mathlib.Core.Logic.{◌⊎◌, inl, inr}
use Prim.Native.Nat.{ℕ, zero, suc, ◌+◌, ◌^◌, ◌≤◌, ◌<◌}
use native.Mathlib.Nat.{add-zero, zero-add, le_of_eq, not-suc-le-zero}
use native.Mathlib.Omega.{arith}
use lib.Dec.{eqb}
use lib.Bits.{bit_xor, xor_lt}
use lib.Pow.{pow-lt}
use lib.IntN.{ℤ, pos, neg_ℤ, ◌+ℤ◌, +ℤ_idr, +ℤ_invr, neg_ℤ-neg_ℤ}
use borrow.Author.Tests.{ne_eqb, eq-eqb, eqb-true}
use Rattle.modes.specs.Bools.{◌⊕◌, same}
use Rattle.modes.specs.Words.{Modes, bit, each}
use Rattle.modes.specs.Counts.{odd}
use Rattle.modes.specs.Sums.{sum_of}
use Rattle.modes.proofs.Sums.{sum_append}
use Rattle.modes.proofs.Bools.{⊕_false, false_⊕, of_same, at3}
use Rattle.modes.proofs.Sets.{odd_△, odd_none, each_cong, each_and}
use Rattle.modes.proofs.Digits.{lt_or_ge, bit_of_xor, bits_xor, bit_pow}
use Rattle.products.specs.Operators.{signed}
use Rattle.products.specs.Product.{choices}

⊕_true : (a : Bool) → a ⊕ true ≡ not a
unfolding ◌⊕◌
⊕_true true = refl
⊕_true false = refl

-- what holds at n modes from p on
unfoldable pub from : ℕ → ℕ → (ℕ → Bool) → Bool
from zero p f = true
from (suc n) p f = f p && from n (suc p) f

from_each : (n p k : ℕ) (f : ℕ → Bool) → p + n ≡ k → each p f && from n p f ≡ each k f
unfolding from each
from_each zero p k f e = and-true (each p f) ∙ ap (λ (x : ℕ). each x f) (sym (add-zero p) ∙ e)
from_each (suc n) p k f e =
    of_same _ _ (at3 (λ a b c. same (a && (b && c)) ((a && b) && c)) refl (each p f) (f p) (from n (suc p) f))
    ∙ from_each n (suc p) k f (omega arith)

pub from_all : (k : ℕ) (f : ℕ → Bool) → from k 0 f ≡ each k f
unfolding each
from_all k f = from_each k 0 k f (zero-add k)

-- S is a part of B, and has nothing from p on
pub record Part (p : ℕ) (B : Modes) (S : ℕ) : Type 0 where
  pub inside : (i : ℕ) → not (bit S i) || B i ≡ true
  pub above : (i : ℕ) → p ≤ i → bit S i ≡ false
  pub small : S < 2 ^ 64

or_true : (a : Bool) → a || true ≡ true
or_true true = refl
or_true false = refl

-- one mode more
pub added : (S p i : ℕ) → bit (bit_xor S (2 ^ p)) i ≡ bit S i ⊕ eqb i p
added S p i = bit_of_xor S (2 ^ p) i ∙ ap (λ (x : Bool). bit S i ⊕ x) (bit_pow p i)

pub part_later : {p : ℕ} {B : Modes} {S : ℕ} → Part p B S → Part (suc p) B S
part_later h = record { inside = h.inside; above = λ i l. h.above i (omega arith); small = h.small }

pub part_more : {p : ℕ} {B : Modes} {S : ℕ} → Part p B S → p < 64 → B p ≡ true → Part (suc p) B (bit_xor S (2 ^ p))
part_more {p} {B} {S} h l e =
    record {
      inside = λ i. inn i (eqb i p) refl;
      above = λ i l. added S p i ∙ ap₂ (λ (x y : Bool). x ⊕ y) (h.above i (omega arith)) (ne_eqb i p (λ e. omega arith))
          ∙ ⊕_false false;
      small = xor_lt 64 S (2 ^ p) h.small (pow-lt l);
    }
  where
    inn : (i : ℕ) (b : Bool) → eqb i p ≡ b → not (bit (bit_xor S (2 ^ p)) i) || B i ≡ true
    inn i true q = rw (ap B (eqb-true i p q) ∙ e) (or_true (not (bit (bit_xor S (2 ^ p)) i)))
    inn i false q = rw (added S p i, q, ⊕_false (bit S i)) (h.inside i)

-- two functions that agree on the parts of B have one sum
pub sum_cong : (n p : ℕ) (B : Modes) (S : ℕ) (f g : ℕ → ℤ) → p + n ≡ 64 → Part p B S → ((q S : ℕ) → Part q B S → f S ≡ g S)
    → sum_of f (choices n p B S) ≡ sum_of g (choices n p B S)
unfolding choices sum_of
sum_cong zero p B S f g k h e = ap (λ (x : ℤ). x +ℤ pos 0) (e p S h)
sum_cong (suc n) p B S f g k h e = go (λ S h. sum_cong n (suc p) B S f g (omega arith) h e) (B p) refl
  where
    go : ((S : ℕ) → Part (suc p) B S → sum_of f (choices n (suc p) B S) ≡ sum_of g (choices n (suc p) B S)) → (b : Bool) → B p ≡ b
        → sum_of f (cond b (choices n (suc p) B S ++ choices n (suc p) B (bit_xor S (2 ^ p))) (choices n (suc p) B S))
        ≡ sum_of g (cond b (choices n (suc p) B S ++ choices n (suc p) B (bit_xor S (2 ^ p))) (choices n (suc p) B S))
    go rec true q =
        sum_append f (choices n (suc p) B S) (choices n (suc p) B (bit_xor S (2 ^ p)))
        ∙ ap₂ (λ (x y : ℤ). x +ℤ y) (rec S (part_later h)) (rec (bit_xor S (2 ^ p)) (part_more h (omega arith) q))
        ∙ sym (sum_append g (choices n (suc p) B S) (choices n (suc p) B (bit_xor S (2 ^ p))))
    go rec false q = rec S (part_later h)

-- ---- one mode more: the count of modes, and what holds at each

pub odd_one : (k p : ℕ) → p < k → odd k (bit (2 ^ p)) ≡ true
unfolding odd
odd_one zero p l = absurd (not-suc-le-zero l)
odd_one (suc j) p l = go (λ h. odd_one j p h) (lt_or_ge p j)
  where
    go : (p < j → odd j (bit (2 ^ p)) ≡ true) → (p < j) ⊎ (j ≤ p) → odd j (bit (2 ^ p)) ⊕ bit (2 ^ p) j ≡ true
    go rec (inl h) = rw (rec h, bit_pow p j, ne_eqb j p (λ e. omega arith)) (⊕_false true)
    go rec (inr h) = rw (odd_none j (bit (2 ^ p)) (λ i m. bit_pow p i ∙ ne_eqb i p (λ e. omega arith)), bit_pow p j, eq-eqb j p (omega arith)) (false_⊕ true)

each_one : (n p : ℕ) (f : Modes) → p < n → each n (λ i. not (eqb i p) || f i) ≡ f p
unfolding each
each_one zero p f l = absurd (not-suc-le-zero l)
each_one (suc j) p f l = go (λ h. each_one j p f h) (lt_or_ge p j)
  where
    all : (n : ℕ) → each n (λ i. true) ≡ true
    all zero = refl
    all (suc n) = rw (all n)

    go : (p < j → each j (λ i. not (eqb i p) || f i) ≡ f p) → (p < j) ⊎ (j ≤ p) → each j (λ i. not (eqb i p) || f i) && (not (eqb j p) || f j) ≡ f p
    go rec (inl h) = rw (rec h, ne_eqb j p (λ e. omega arith)) (and-true (f p))
    go rec (inr h) =
        rw (each_cong j (λ i. not (eqb i p) || f i) (λ i. true) (λ i m. ap (λ (x : Bool). not x || f i) (ne_eqb i p (λ e. omega arith))), all j, eq-eqb j p (omega arith))
        (ap f (omega arith))

module _ (k : Modes) (Z : ℤ) where
  -- a set of modes of k counts Z, with a sign for each mode; any other counts nothing
  abbrev pub weigh : ℕ → ℤ
  weigh S = cond (each 64 (λ i. not (bit S i) || k i)) (signed (odd 64 (bit S)) Z) (pos 0)

  each_more : (B : Modes) (S p : ℕ) → Part p B S → p < 64
      → each 64 (λ i. not (bit (bit_xor S (2 ^ p)) i) || k i) ≡ each 64 (λ i. not (bit S i) || k i) && k p
  each_more B S p h l =
      each_cong 64 _ (λ i. (not (bit S i) || k i) && (not (eqb i p) || k i)) (λ i m. ap (λ (x : Bool). not x || k i) (added S p i) ∙ digit i (eqb i p) refl)
      ∙ each_and 64 (λ i. not (bit S i) || k i) (λ i. not (eqb i p) || k i)
      ∙ ap (λ (x : Bool). each 64 (λ i. not (bit S i) || k i) && x) (each_one 64 p k l)
    where
      digit : (i : ℕ) (b : Bool) → eqb i p ≡ b → not (bit S i ⊕ b) || k i ≡ (not (bit S i) || k i) && (not b || k i)
      digit i true q = rw (h.above i (le_of_eq (sym (eqb-true i p q))), false_⊕ true) refl
      digit i false q = rw (⊕_false (bit S i)) (sym (and-true _))

  weigh_more : (B : Modes) (S p : ℕ) → Part p B S → p < 64 → weigh (bit_xor S (2 ^ p)) ≡ cond (k p) (neg_ℤ (weigh S)) (pos 0)
  weigh_more B S p h l =
      ap₂ (λ (x y : Bool). cond x (signed y Z) (pos 0)) (each_more B S p h l)
      (ap (odd 64) (bits_xor S (2 ^ p)) ∙ odd_△ 64 (bit S) (bit (2 ^ p)) ∙ ap (λ (x : Bool). odd 64 (bit S) ⊕ x) (odd_one 64 p l) ∙ ⊕_true (odd 64 (bit S)))
      ∙ go (each 64 (λ i. not (bit S i) || k i)) (k p) (odd 64 (bit S))
    where
      go : (a b o : Bool) → cond (a && b) (signed (not o) Z) (pos 0) ≡ cond b (neg_ℤ (cond a (signed o Z) (pos 0))) (pos 0)
      go true true true = sym (neg_ℤ-neg_ℤ Z)
      go true true false = refl
      go true false o = refl
      go false true o = refl
      go false false o = refl

  pub alternate : (n p : ℕ) (B : Modes) (S : ℕ) → p + n ≡ 64 → Part p B S
      → sum_of weigh (choices n p B S) ≡ cond (from n p (λ i. not (B i && k i))) (weigh S) (pos 0)
  unfolding sum_of choices from
  alternate zero p B S e h = +ℤ_idr (weigh S)
  alternate (suc n) p B S e h =
      go (λ S h. alternate n (suc p) B S (omega arith) h) (B p) refl
    where
      fin : (b m : Bool) (z : ℤ) → cond m z (pos 0) +ℤ cond m (cond b (neg_ℤ z) (pos 0)) (pos 0) ≡ cond (not b && m) z (pos 0)
      fin true true z = +ℤ_invr z
      fin true false z = refl
      fin false true z = +ℤ_idr z
      fin false false z = refl

      go : ((S : ℕ) → Part (suc p) B S → sum_of weigh (choices n (suc p) B S) ≡ cond (from n (suc p) (λ i. not (B i && k i))) (weigh S) (pos 0))
          → (b : Bool) → B p ≡ b
          → sum_of weigh (cond b (choices n (suc p) B S ++ choices n (suc p) B (bit_xor S (2 ^ p))) (choices n (suc p) B S))
          ≡ cond (not (b && k p) && from n (suc p) (λ i. not (B i && k i))) (weigh S) (pos 0)
      go rec true q =
          sum_append weigh (choices n (suc p) B S) (choices n (suc p) B (bit_xor S (2 ^ p)))
          ∙ ap₂ (λ (x y : ℤ). x +ℤ y) (rec S (part_later h))
          (rec (bit_xor S (2 ^ p)) (part_more h (omega arith) q)
          ∙ ap (λ (z : ℤ). cond (from n (suc p) (λ i. not (B i && k i))) z (pos 0)) (weigh_more B S p h (omega arith)))
          ∙ fin (k p) (from n (suc p) (λ i. not (B i && k i))) (weigh S)
      go rec false q = rec S (part_later h)
