-- Shifts and exclusive ors that double a window: the parity of the modes below each mode, for all modes of a word at once.
use mathlib.Core.Path.{◌≡◌, refl, sym, ap, ap₂, ◌∙◌}
use mathlib.Core.Bool.{Bool, true, false, not, ◌&&◌}
use mathlib.Core.Logic.{◌⊎◌, inl, inr}
use Prim.Native.Nat.{ℕ, zero, suc, ◌+◌, ◌-◌, ◌*◌, ◌%◌, ◌^◌, ◌≤◌, ◌<◌}
use native.Mathlib.Nat.{pow-suc, mul-one, mul_assoc, zero-lt-suc, mul-div_cancel}
use native.Mathlib.Omega.{arith}
use lib.Bits.{bit_xor, and_mask}
use lib.Dec.{eqb}
use lib.Pow.{pow_pos}
use Rattle.modes.specs.Bools.{◌⊕◌}
use Rattle.modes.specs.Words.{Modes, bit}
use Rattle.modes.specs.Counts.{odd, odd_exchanges}
use Rattle.modes.proofs.Bools.{⊕_false, parity_sum}
use Rattle.modes.proofs.Digits.{lt_or_ge, bit_of_xor, bit_of_and, bit_not, bit_half, bit_zero, bit_none}

-- ---- a shift

-- one place up
double_zero : (x : ℕ) → bit (x * 2) 0 ≡ false
double_zero x = let e : x * 2 % 2 ≡ 0 = omega arith in bit_zero (x * 2) ∙ ap (λ (n : ℕ). eqb n 1) e

double_suc : (x p : ℕ) → bit (x * 2) (suc p) ≡ bit x p
double_suc x p = sym (bit_half (x * 2) p) ∙ ap (λ (y : ℕ). bit y p) (mul-div_cancel x (zero-lt-suc 1))

shifted_up : (n x p : ℕ) → n ≤ p → bit (x * 2 ^ n) p ≡ bit x (p - n)
shifted_up zero x p l = ap₂ bit (mul-one x) (omega arith)
shifted_up (suc n) x zero l = absurd (omega arith)
shifted_up (suc n) x (suc p) l =
    ap (λ (y : ℕ). bit y (suc p)) (ap (λ (y : ℕ). x * y) (pow-suc 2 n) ∙ sym (mul_assoc x (2 ^ n) 2))
    ∙ double_suc (x * 2 ^ n) p ∙ shifted_up n x p (omega arith) ∙ ap (bit x) (omega arith)

shifted_low : (n x p : ℕ) → p < n → bit (x * 2 ^ n) p ≡ false
shifted_low zero x p l = absurd (omega arith)
shifted_low (suc n) x p l = ap (λ (y : ℕ). bit y p) (ap (λ (y : ℕ). x * y) (pow-suc 2 n) ∙ sym (mul_assoc x (2 ^ n) 2)) ∙ go p l (λ q m. shifted_low n x q m)
  where
    go : (p : ℕ) → p < suc n → ((q : ℕ) → q < n → bit (x * 2 ^ n) q ≡ false) → bit (x * 2 ^ n * 2) p ≡ false
    go zero m rec = double_zero (x * 2 ^ n)
    go (suc q) m rec = double_suc (x * 2 ^ n) q ∙ rec q (omega arith)

-- what a word of k bits keeps
bit_mod : (k y p : ℕ) → p < k → bit (y % 2 ^ k) p ≡ bit y p
bit_mod k y p l =
    ap (λ (x : ℕ). bit x p) (sym (and_mask y k)) ∙ bit_of_and y (2 ^ k - 1) p ∙ ap (λ (b : Bool). bit y p && b) full ∙ and_full (bit y p)
  where
    full : bit (2 ^ k - 1) p ≡ true
    full = ap (λ (x : ℕ). bit x p) (omega arith) ∙ bit_not k 0 p (pow_pos k) l ∙ ap not (bit_none p)

    and_full : (b : Bool) → b && true ≡ b
    and_full true = refl
    and_full false = refl

-- ---- windows

-- bit p of x is the parity of the n modes of w that end at p
pub Window : ℕ → ℕ → ℕ → ℕ → Type 0
Window k n w x = (p : ℕ) → p < k → bit x p ≡ odd (suc p) (bit w) ⊕ odd (suc p - n) (bit w)

pub one_window : (k w : ℕ) → Window k 1 w w
unfolding Window odd
one_window k w p l =
    let e : suc p - 1 ≡ p = omega arith in sym (ap (λ (m : ℕ). (odd p (bit w) ⊕ bit w p) ⊕ odd m (bit w)) e ∙ drop (odd p (bit w)) (bit w p))
  where
    drop : (o b : Bool) → (o ⊕ b) ⊕ o ≡ b
    drop o b = simp parity_sum

none_below : (u : Modes) (m : ℕ) → m ≡ 0 → odd m u ≡ false
unfolding odd
none_below u m e = rw e

-- a word, and the same word n places up: a window of twice the width
pub twice_window : (k n w x : ℕ) → Window k n w x → Window k (n + n) w (bit_xor x ((x * 2 ^ n) % 2 ^ k))
unfolding Window
twice_window k n w x h p l = bit_of_xor x ((x * 2 ^ n) % 2 ^ k) p ∙ ap₂ (λ (a b : Bool). a ⊕ b) (h p l) (bit_mod k (x * 2 ^ n) p l) ∙ go (lt_or_ge p n)
  where
    merge : (a b c : Bool) → (a ⊕ b) ⊕ (b ⊕ c) ≡ a ⊕ c
    merge a b c = simp parity_sum

    u : Modes
    u = bit w

    go : (p < n) ⊎ (n ≤ p) → (odd (suc p) u ⊕ odd (suc p - n) u) ⊕ bit (x * 2 ^ n) p ≡ odd (suc p) u ⊕ odd (suc p - (n + n)) u
    go (inl m) =
        rw (shifted_low n x p m, none_below u (suc p - n) (omega arith), none_below u (suc p - (n + n)) (omega arith), ⊕_false (odd (suc p) u ⊕ false))
    go (inr m) =
        ap (λ (b : Bool). (odd (suc p) u ⊕ odd (suc p - n) u) ⊕ b) (shifted_up n x p m ∙ h (p - n) (omega arith))
        ∙ ap₂ (λ (i j : ℕ). (odd (suc p) u ⊕ odd (suc p - n) u) ⊕ (odd i u ⊕ odd j u)) (omega arith) (omega arith)
        ∙ merge (odd (suc p) u) (odd (suc p - n) u) (odd (suc p - (n + n)) u)

-- the whole width, less the mode itself: the modes below
pub window_below : (k w x : ℕ) → Window k k w x → (p : ℕ) → p < k → bit (bit_xor x w) p ≡ odd p (bit w)
unfolding Window odd
window_below k w x h p l =
    bit_of_xor x w p ∙ ap (λ (b : Bool). b ⊕ bit w p) (h p l ∙ ap (λ (b : Bool). (odd p (bit w) ⊕ bit w p) ⊕ b) (none_below (bit w) (suc p - k) (omega arith)))
    ∙ strip (odd p (bit w)) (bit w p)
  where
    strip : (o b : Bool) → ((o ⊕ b) ⊕ false) ⊕ b ≡ o
    strip o b = simp parity_sum

-- ---- exchanges by parities below

-- the modes of v that have an odd number of modes of u below them
pub odd_exchanges_is : (k : ℕ) (u v : Modes) → odd_exchanges k u v ≡ odd k (λ p. v p && odd p u)
unfolding odd_exchanges odd
odd_exchanges_is zero u v = refl
odd_exchanges_is (suc p) u v = ap (λ (b : Bool). b ⊕ (v p && odd p u)) (odd_exchanges_is p u v)
