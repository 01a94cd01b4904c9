-- The operations of the code on words are those on sets of modes, and a word is known by its modes.
use mathlib.Core.Path.{◌≡◌, refl, sym, ap, ap₂, ◌∙◌, subst, fun_ext}
use mathlib.Core.Logic.{◌⊎◌, inl, inr}
use mathlib.Core.Bool.{Bool, true, false, not, ◌&&◌, ◌||◌, true≢false}
use Prim.Native.Nat.{ℕ, zero, suc, ◌+◌, ◌-◌, ◌*◌, ◌/◌, ◌%◌, ◌^◌, ◌≤◌, ◌<◌, zero-le, suc-le-suc}
use native.Mathlib.Nat.{le_of_suc-le-suc, not-suc-le-zero, zero-lt-suc, mod-lt, mod-eq_of_lt, div-eq_of_lt, div-add-mod', div-one}
use native.Mathlib.Nat.{lt_of_lt_of_le, lt_of_le_of_lt, lt-suc_self, one-mul, pow-suc}
use native.Mathlib.Numerals.{add-one, one-add}
use native.Mathlib.Omega.{arith}
use lib.Dec.{eqb, ltb, T, eqb-zero-suc, eqb-suc-zero, eqb-suc-suc, lit<}
use lib.Pow.{pow_mono, pow-lt, shr-shr, shr_lt}
use lib.Arith.{lt-one}
use lib.Bits.{bit_and, bit_or, bit_xor, and_shr, or_shr, xor_shr, and_mod, or_mod, xor_mod, shifted_half, shifted_even}
use borrow.Author.Tests.{ltb-true, ltb-false}
use Rattle.modes.specs.Bools.{◌⊕◌}
use Rattle.modes.specs.Words.{bit, ◌△◌}
use Rattle.modes.specs.Counts.{odd}
use Rattle.modes.proofs.Sets.{odd_△}

pub lt_or_ge : (i p : ℕ) → (i < p) ⊎ (p ≤ i)
lt_or_ge i p = go (ltb i p) refl
  where
    go : (b : Bool) → ltb i p ≡ b → (i < p) ⊎ (p ≤ i)
    go true e = inl (ltb-true i p e)
    go false e = inr (ltb-false i p e)

two_pos : zero < 2
two_pos = zero-lt-suc 1

-- a digit is 0 or 1
pub by_bit {ℓ} : (P : ℕ → Type ℓ) → P 0 → P 1 → (x : ℕ) → x < 2 → P x
by_bit P h0 h1 zero l = h0
by_bit P h0 h1 (suc zero) l = h1
by_bit P h0 h1 (suc (suc x)) l = absurd (not-suc-le-zero (le_of_suc-le-suc (le_of_suc-le-suc l)))

module _ (op : ℕ → ℕ → ℕ) (f : Bool → Bool → Bool)
    (shr : (a b k : ℕ) → op a b / 2 ^ k ≡ op (a / 2 ^ k) (b / 2 ^ k))
    (low : (a b k : ℕ) → op a b % 2 ^ k ≡ op (a % 2 ^ k) (b % 2 ^ k))
    (h00 : eqb (op 0 0) 1 ≡ f false false) (h01 : eqb (op 0 1) 1 ≡ f false true)
    (h10 : eqb (op 1 0) 1 ≡ f true false) (h11 : eqb (op 1 1) 1 ≡ f true true) where
  digit : (x y : ℕ) → x < 2 → y < 2 → eqb (op x y) 1 ≡ f (eqb x 1) (eqb y 1)
  digit x y hx hy =
      by_bit (λ (x : ℕ). eqb (op x y) 1 ≡ f (eqb x 1) (eqb y 1))
      (by_bit (λ (y : ℕ). eqb (op 0 y) 1 ≡ f (eqb 0 1) (eqb y 1)) h00 h01 y hy)
      (by_bit (λ (y : ℕ). eqb (op 1 y) 1 ≡ f (eqb 1 1) (eqb y 1)) h10 h11 y hy) x hx

  bit_op : (a b p : ℕ) → bit (op a b) p ≡ f (bit a p) (bit b p)
  unfolding bit
  bit_op a b p =
      ap (λ (x : ℕ). eqb (x % 2) 1) (shr a b p)
      ∙ ap (λ (x : ℕ). eqb x 1) (low (a / 2 ^ p) (b / 2 ^ p) 1)
      ∙ digit (a / 2 ^ p % 2) (b / 2 ^ p % 2) (mod-lt (a / 2 ^ p) two_pos) (mod-lt (b / 2 ^ p) two_pos)

pub bit_of_and : (a b p : ℕ) → bit (bit_and a b) p ≡ bit a p && bit b p
bit_of_and = bit_op bit_and ◌&&◌ and_shr and_mod refl refl refl refl

pub bit_of_or : (a b p : ℕ) → bit (bit_or a b) p ≡ bit a p || bit b p
bit_of_or = bit_op bit_or ◌||◌ or_shr or_mod refl refl refl refl

pub bit_of_xor : (a b p : ℕ) → bit (bit_xor a b) p ≡ bit a p ⊕ bit b p
unfolding ◌⊕◌
bit_of_xor = bit_op bit_xor ◌⊕◌ xor_shr xor_mod refl refl refl refl

-- nothing stands at or above a word's width
pub bit_above : (k w p : ℕ) → w < 2 ^ k → k ≤ p → bit w p ≡ false
unfolding bit
bit_above k w p h l = ap (λ (x : ℕ). eqb (x % 2) 1) (div-eq_of_lt (lt_of_lt_of_le h (pow_mono l)))

-- so a mode of a word stands below it
pub bit_below : (k w p : ℕ) → w < 2 ^ k → bit w p ≡ true → p < k
bit_below k w p h e = go (lt_or_ge p k)
  where
    go : (p < k) ⊎ (k ≤ p) → p < k
    go (inl l) = l
    go (inr l) = absurd (true≢false (sym e ∙ bit_above k w p h l))

pub bit_zero : (w : ℕ) → bit w 0 ≡ eqb (w % 2) 1
unfolding bit
bit_zero w = ap (λ (x : ℕ). eqb (x % 2) 1) (div-one w)

-- the modes of half a word
pub bit_half : (w p : ℕ) → bit (w / 2) p ≡ bit w (suc p)
unfolding bit
bit_half w p = ap (λ (x : ℕ). eqb (x % 2) 1) (shr-shr w 1 p ∙ ap (λ (x : ℕ). w / 2 ^ x) (one-add p))

odd_eq : (x y : ℕ) → x < 2 → y < 2 → eqb x 1 ≡ eqb y 1 → x ≡ y
odd_eq x y hx hy =
    by_bit (λ (x : ℕ). eqb x 1 ≡ eqb y 1 → x ≡ y)
    (by_bit (λ (y : ℕ). eqb 0 1 ≡ eqb y 1 → 0 ≡ y) (λ e. refl) (λ e. absurd (subst T (sym e) tt)) y hy)
    (by_bit (λ (y : ℕ). eqb 1 1 ≡ eqb y 1 → 1 ≡ y) (λ e. absurd (subst T e tt)) (λ e. refl) y hy) x hx

-- words that hold the same modes are equal
ext_below : (k a b : ℕ) → a < 2 ^ k → b < 2 ^ k → ((p : ℕ) → bit a p ≡ bit b p) → a ≡ b
unfolding bit
ext_below zero a b ha hb h = lt-one ha ∙ sym (lt-one hb)
ext_below (suc k) a b ha hb h =
    sym (div-add-mod' a 2)
    ∙ ap₂ (λ (x y : ℕ). x * 2 + y)
    (ext_below k (a / 2) (b / 2) (half a ha) (half b hb) (λ p. bit_half a p ∙ h (suc p) ∙ sym (bit_half b p)))
    (odd_eq (a % 2) (b % 2) (mod-lt a two_pos) (mod-lt b two_pos) (low a ∙ h 0 ∙ sym (low b)))
    ∙ div-add-mod' b 2
  where
    half : (n : ℕ) → n < 2 ^ suc k → n / 2 < 2 ^ k
    half n l = shr_lt k 1 (subst (λ (x : ℕ). n < 2 ^ x) (sym (add-one k)) l)

    low : (n : ℕ) → eqb (n % 2) 1 ≡ eqb (n / 2 ^ 0 % 2) 1
    low n = ap (λ (x : ℕ). eqb (x % 2) 1) (sym (div-one n))

lt_pow_self : (k : ℕ) → k < 2 ^ k
lt_pow_self zero = zero-lt-suc zero
lt_pow_self (suc k) = lt_of_le_of_lt (lt_pow_self k) (pow-lt (lt-suc_self k))

pub ext : (a b : ℕ) → ((p : ℕ) → bit a p ≡ bit b p) → a ≡ b
ext a b h = ext_below (a + b) a b (lt_of_lt_of_le (lt_pow_self a) (pow_mono (omega arith))) (lt_of_lt_of_le (lt_pow_self b) (pow_mono (omega arith))) h

-- a one that is shifted by fewer than 64 places stays in the word
pub one_shifted : (q : ℕ) → q < 64 → (1 * 2 ^ q) % 2 ^ 64 ≡ 2 ^ q
one_shifted q h = ap (λ (x : ℕ). x % 2 ^ 64) (one-mul (2 ^ q)) ∙ mod-eq_of_lt (pow-lt h)

-- the word with the one mode q
pub bit_pow : (q p : ℕ) → bit (2 ^ q) p ≡ eqb p q
unfolding bit
bit_pow zero zero = refl
bit_pow zero (suc p) = bit_above 1 1 (suc p) (lit< tt) (suc-le-suc zero-le) ∙ sym (eqb-suc-zero p)
bit_pow (suc q) zero =
    ap (λ (x : ℕ). eqb (x % 2) 1) (div-one (2 ^ suc q)) ∙ ap (λ (x : ℕ). eqb (x % 2) 1) (sym (one-mul (2 ^ suc q)))
    ∙ ap (λ (x : ℕ). eqb x 1) (shifted_even 1 q) ∙ sym (eqb-zero-suc q)
bit_pow (suc q) (suc p) =
    sym (bit_half (2 ^ suc q) p)
    ∙ ap (λ (x : ℕ). bit x p) (ap (λ (x : ℕ). x / 2) (sym (one-mul (2 ^ suc q))) ∙ shifted_half 1 q ∙ one-mul (2 ^ q))
    ∙ bit_pow q p ∙ sym (eqb-suc-suc p q)

pub bits_xor : (a b : ℕ) → bit (bit_xor a b) ≡ bit a △ bit b
unfolding ◌△◌
bits_xor a b = fun_ext (bit_of_xor a b)

pub odd_xor : (k a b : ℕ) → odd k (bit (bit_xor a b)) ≡ odd k (bit a) ⊕ odd k (bit b)
odd_xor k a b = ap (odd k) (bits_xor a b) ∙ odd_△ k (bit a) (bit b)

-- the empty word
pub bit_none : (i : ℕ) → bit 0 i ≡ false
bit_none i = bit_above 0 0 i (lit< tt) zero-le

-- `!a`: the modes that are not in a
pub bit_not : (k a p : ℕ) → a < 2 ^ k → p < k → bit ((2 ^ k - 1) - a) p ≡ not (bit a p)
bit_not zero a p h l = absurd (omega arith)
bit_not (suc k) a zero h l =
    bit_zero ((2 ^ suc k - 1) - a) ∙ ap (λ (x : ℕ). eqb x 1) low ∙ by_bit (λ (x : ℕ). eqb (1 - x) 1 ≡ not (eqb x 1)) refl refl (a % 2) (omega arith)
    ∙ ap not (sym (bit_zero a))
  where
    low : ((2 ^ suc k - 1) - a) % 2 ≡ 1 - a % 2
    low = omega (arith, pow-suc 2 k)
bit_not (suc k) a (suc p) h l =
    sym (bit_half ((2 ^ suc k - 1) - a) p) ∙ ap (λ (x : ℕ). bit x p) high ∙ bit_not k (a / 2) p (omega (arith, pow-suc 2 k)) (omega arith) ∙ ap not (bit_half a p)
  where
    high : ((2 ^ suc k - 1) - a) / 2 ≡ (2 ^ k - 1) - a / 2
    high = omega (arith, pow-suc 2 k)

-- `a & !b`: the modes of a that are not in b
pub bit_without : (k a b p : ℕ) → a < 2 ^ k → b < 2 ^ k → bit (bit_and a ((2 ^ k - 1) - b)) p ≡ bit a p && not (bit b p)
bit_without k a b p ha hb = bit_of_and a ((2 ^ k - 1) - b) p ∙ at (lt_or_ge p k)
  where
    at : (p < k) ⊎ (k ≤ p) → bit a p && bit ((2 ^ k - 1) - b) p ≡ bit a p && not (bit b p)
    at (inl l) = ap (λ (x : Bool). bit a p && x) (bit_not k b p hb l)
    at (inr l) = rw (bit_above k a p ha l)
