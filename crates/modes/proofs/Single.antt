-- One mode p as a word, 2^p: the modes below it and those above it, at any width.
use mathlib.Core.Path.{◌≡◌, refl, sym, ap, ap₂, ◌∙◌}
use mathlib.Core.Bool.{Bool, true, false, not, cond, ◌&&◌}
use mathlib.Core.Logic.{◌⊎◌, inl, inr}
use Prim.Native.Nat.{ℕ, zero, suc, ◌+◌, ◌-◌, ◌^◌, ◌≤◌, ◌<◌}
use native.Mathlib.Nat.{lt_of_le_of_lt, not-suc-le-zero, zero-add, pow-suc}
use native.Mathlib.Omega.{arith}
use lib.Bits.{bit_and, and_mask, and_le_l}
use lib.Count.{ones}
use lib.Pow.{pow_pos, pow_mono}
use borrow.Author.Tests.{ne_eqb, eq-eqb}
use Rattle.modes.specs.Bools.{◌⊕◌}
use Rattle.modes.specs.Words.{Modes, bit, ◌△◌}
use Rattle.modes.specs.Counts.{parity, count, exchanges, odd, odd_exchanges}
use Rattle.modes.proofs.Bools.{⊕_false, false_⊕, ⊕_left, ⊕_self, ⊕_self_left}
use Rattle.modes.proofs.Sets.{odd_△, odd_cong, △_at}
use Rattle.modes.proofs.Digits.{lt_or_ge, bit_of_and, bit_not, bit_pow, bit_none}
use Rattle.modes.proofs.Counts.{parity_add, count_odd, exchanges_odd, count_ones, ones_below_width}
use Rattle.modes.proofs.Lowest.{Less, exchanges_less, exchanges_end, count_less}

-- the one mode, and nothing
one_less : (p : ℕ) → Less p (bit (2 ^ p)) (bit 0)
one_less p = record {
  has = bit_pow p p ∙ eq-eqb p p refl;
  lost = bit_none p;
  rest = λ i n. bit_pow p i ∙ ne_eqb i p n ∙ sym (bit_none i);
}

-- the modes of u below p
exchanges_one : (k p : ℕ) (u : Modes) → p < k → exchanges k u (bit (2 ^ p)) ≡ count p u
exchanges_one k p u l = exchanges_less k p u (bit (2 ^ p)) (bit 0) (one_less p) l ∙ ap (λ (x : ℕ). x + count p u) (exchanges_end k u 0 refl) ∙ zero-add (count p u)

pub count_nothing : (k : ℕ) → count k (bit 0) ≡ 0
unfolding count
count_nothing zero = refl
count_nothing (suc k) = rw (count_nothing k, bit_none k)

-- there is one, above p
count_one : (k p : ℕ) → p < k → count k (bit (2 ^ p)) ≡ 1
count_one k p l = count_less k p (bit (2 ^ p)) (bit 0) (one_less p) l ∙ ap suc (count_nothing k)

-- and none, up to p
count_below : (k p : ℕ) → k ≤ p → count k (bit (2 ^ p)) ≡ 0
unfolding count
count_below zero p l = refl
count_below (suc k) p l = rw (count_below k p (omega arith), bit_pow p k ∙ ne_eqb k p (λ e. omega arith))

pub count_most : (k p : ℕ) → count k (bit (2 ^ p)) ≤ 1
count_most k p = go (lt_or_ge p k)
  where
    go : (p < k) ⊎ (k ≤ p) → count k (bit (2 ^ p)) ≤ 1
    go (inl l) = omega (arith, count_one k p l)
    go (inr l) = omega (arith, count_below k p l)

exchanges_below : (k p : ℕ) (v : Modes) → k ≤ suc p → exchanges k (bit (2 ^ p)) v ≡ 0
unfolding exchanges
exchanges_below zero p v l = refl
exchanges_below (suc k) p v l = rw (exchanges_below k p v (omega arith), count_below k p (omega arith)) (none (v k))
  where
    none : (b : Bool) → 0 + cond b 0 0 ≡ 0
    none true = refl
    none false = refl

count_suc : (j : ℕ) (v : Modes) → count (suc j) v ≡ count j v + cond (v j) 1 0
unfolding count
count_suc j v = refl

-- the modes of v above p: all but those up to p
one_exchanges : (k p : ℕ) (v : Modes) → p < k → exchanges k (bit (2 ^ p)) v + count (suc p) v ≡ count k v
unfolding exchanges
one_exchanges zero p v l = absurd (not-suc-le-zero l)
one_exchanges (suc j) p v l = go (λ m. one_exchanges j p v m) (lt_or_ge p j)
  where
    more : p < j → exchanges j (bit (2 ^ p)) v + cond (v j) (count j (bit (2 ^ p))) 0 ≡ exchanges j (bit (2 ^ p)) v + cond (v j) 1 0
    more m = rw (count_one j p m)

    go : (p < j → exchanges j (bit (2 ^ p)) v + count (suc p) v ≡ count j v) → (p < j) ⊎ (j ≤ p)
        → exchanges (suc j) (bit (2 ^ p)) v + count (suc p) v ≡ count (suc j) v
    go rec (inl m) = omega (arith, more m, count_suc j v, rec m)
    go rec (inr m) = let e : j ≡ p = omega arith in rw (exchanges_below (suc j) p v (omega arith), e) (zero-add (count (suc p) v))

-- ---- as the machine counts them

-- `w & (2^p - 1)`
ones_below : (w p : ℕ) → ones (bit_and w (2 ^ p - 1)) ≡ count p (bit w)
ones_below w p = ap ones (and_mask w p) ∙ count_ones p w

-- `w & (2^p - 1 + 2^p)`
ones_up_to : (w p : ℕ) → ones (bit_and w ((2 ^ p - 1) + 2 ^ p)) ≡ count (suc p) (bit w)
ones_up_to w p = ap (λ (x : ℕ). ones (bit_and w x)) twice ∙ ones_below w (suc p)
  where
    twice : (2 ^ p - 1) + 2 ^ p ≡ 2 ^ suc p - 1
    twice = omega (arith, pow-suc 2 p, pow_pos p)

-- ---- as parities, at a width k

odd_ones : (k x : ℕ) → x < 2 ^ k → odd k (bit x) ≡ parity (ones x)
odd_ones k x h = sym (count_odd k (bit x)) ∙ ap parity (sym (ones_below_width k x h))

-- `w & (2^q - 1)`: as many modes, modulo 2, as stand below q
pub odd_below : (k w q : ℕ) → w < 2 ^ k → q < k → odd k (bit (bit_and w (2 ^ q - 1))) ≡ odd_exchanges k (bit w) (bit (2 ^ q))
odd_below k w q h l =
    odd_ones k (bit_and w (2 ^ q - 1)) (lt_of_le_of_lt (and_le_l w (2 ^ q - 1)) h)
    ∙ ap parity (ones_below w q ∙ sym (exchanges_one k q (bit w) l)) ∙ exchanges_odd k (bit w) (bit (2 ^ q))

-- `w & !(2^q - 1 + 2^q)`: as many, modulo 2, as stand above q
pub odd_above : (k w q : ℕ) → w < 2 ^ k → q < k
    → odd k (bit (bit_and w ((2 ^ k - 1) - ((2 ^ q - 1) + 2 ^ q)))) ≡ odd_exchanges k (bit (2 ^ q)) (bit w)
odd_above k w q h l = part (odd k (bit w)) (odd k (bit low)) (odd k (bit high)) (odd_exchanges k (bit (2 ^ q)) (bit w)) (odd (suc q) (bit w)) split few all
  where
    small : (2 ^ q - 1) + 2 ^ q < 2 ^ k
    small = omega (arith, pow-suc 2 q, pow_pos q, pow_mono l)

    low : ℕ
    low = bit_and w ((2 ^ q - 1) + 2 ^ q)

    high : ℕ
    high = bit_and w ((2 ^ k - 1) - ((2 ^ q - 1) + 2 ^ q))

    digit : (x y : Bool) → x ≡ (x && y) ⊕ (x && not y)
    digit true true = sym (⊕_false true)
    digit true false = sym (false_⊕ true)
    digit false y = sym (⊕_false false)

    split : odd k (bit w) ≡ odd k (bit low) ⊕ odd k (bit high)
    split =
        odd_cong k (bit w) (bit low △ bit high)
        (λ p m. digit (bit w p) (bit ((2 ^ q - 1) + 2 ^ q) p)
        ∙ sym (△_at (bit low) (bit high) p ∙ ap₂ (λ (x y : Bool). x ⊕ y) (bit_of_and w ((2 ^ q - 1) + 2 ^ q) p)
        (bit_of_and w ((2 ^ k - 1) - ((2 ^ q - 1) + 2 ^ q)) p ∙ ap (λ (x : Bool). bit w p && x) (bit_not k ((2 ^ q - 1) + 2 ^ q) p small m))))
        ∙ odd_△ k (bit low) (bit high)

    few : odd k (bit low) ≡ odd (suc q) (bit w)
    few = odd_ones k low (lt_of_le_of_lt (and_le_l w ((2 ^ q - 1) + 2 ^ q)) h) ∙ ap parity (ones_up_to w q) ∙ count_odd (suc q) (bit w)

    all : odd_exchanges k (bit (2 ^ q)) (bit w) ⊕ odd (suc q) (bit w) ≡ odd k (bit w)
    all =
        ap₂ (λ (x y : Bool). x ⊕ y) (sym (exchanges_odd k (bit (2 ^ q)) (bit w))) (sym (count_odd (suc q) (bit w)))
        ∙ sym (parity_add (exchanges k (bit (2 ^ q)) (bit w)) (count (suc q) (bit w))) ∙ ap parity (one_exchanges k q (bit w) l) ∙ count_odd k (bit w)

    part : (o a b e f : Bool) → o ≡ a ⊕ b → a ≡ f → e ⊕ f ≡ o → b ≡ e
    part o a b e f p r s =
        sym (⊕_self_left a b) ∙ ap₂ (λ (x y : Bool). x ⊕ y) r (sym p ∙ sym s) ∙ ⊕_left f e f ∙ ap (λ (x : Bool). e ⊕ x) (⊕_self f) ∙ ⊕_false e
