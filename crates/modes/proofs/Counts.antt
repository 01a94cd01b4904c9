-- Counting modes at any width: parities, bounds, the machine's count of bits, words with no mode in common, and pairs.
use mathlib.Core.Path.{◌≡◌, refl, sym, ap, ap₂, ◌∙◌}
use mathlib.Core.Bool.{Bool, true, false, cond, ◌&&◌, true≢false}
use Prim.Native.Nat.{ℕ, zero, suc, ◌+◌, ◌-◌, ◌*◌, ◌/◌, ◌%◌, ◌^◌, ◌≤◌, ◌<◌, zero-le}
use native.Mathlib.Nat.{lt-suc_self, mod-lt, mod-eq_of_lt, zero-lt-suc, add_comm, add-zero, mod-one, suc-mul, mul-suc, add-mul-div_right}
use native.Mathlib.Numerals.{add-one, one-add}
use native.Mathlib.Omega.{arith}
use lib.Dec.{eqb}
use lib.Pow.{pow_pos, mod-pow-add}
use lib.Count.{ones, ones_cat}
use Rattle.modes.specs.Bools.{◌⊕◌}
use Rattle.modes.specs.Words.{Modes, bit}
use Rattle.modes.specs.Counts.{parity, count, exchanges, pairs, odd, odd_exchanges}
use Rattle.modes.proofs.Bools.{⊕_false, false_⊕, ⊕_self}
use Rattle.modes.proofs.Digits.{by_bit}

-- ---- parities

pub parity_add : (a b : ℕ) → parity (a + b) ≡ parity a ⊕ parity b
parity_add a b =
    ap (λ (x : ℕ). eqb x 1) split ∙ by_bit (λ (x : ℕ). eqb ((x + b % 2) % 2) 1 ≡ eqb x 1 ⊕ parity b)
    (by_bit (λ (y : ℕ). eqb ((0 + y) % 2) 1 ≡ eqb 0 1 ⊕ eqb y 1) (sym (⊕_false false)) (sym (false_⊕ true)) (b % 2) (omega arith))
    (by_bit (λ (y : ℕ). eqb ((1 + y) % 2) 1 ≡ eqb 1 1 ⊕ eqb y 1) (sym (⊕_false true)) (sym (⊕_self true)) (b % 2) (omega arith))
    (a % 2) (omega arith)
  where
    split : (a + b) % 2 ≡ (a % 2 + b % 2) % 2
    split = omega arith

parity_cond : (b : Bool) (n : ℕ) → parity (cond b n 0) ≡ b && parity n
parity_cond true n = refl
parity_cond false n = refl

pub count_odd : (k : ℕ) (u : Modes) → parity (count k u) ≡ odd k u
unfolding count odd
count_odd zero u = refl
count_odd (suc p) u = parity_add (count p u) (cond (u p) 1 0) ∙ ap₂ (λ (x y : Bool). x ⊕ y) (count_odd p u) (one (u p))
  where
    one : (b : Bool) → parity (cond b 1 0) ≡ b
    one true = refl
    one false = refl

pub exchanges_odd : (k : ℕ) (u v : Modes) → parity (exchanges k u v) ≡ odd_exchanges k u v
unfolding exchanges odd_exchanges
exchanges_odd zero u v = refl
exchanges_odd (suc p) u v =
    parity_add (exchanges p u v) (cond (v p) (count p u) 0)
    ∙ ap₂ (λ (x y : Bool). x ⊕ y) (exchanges_odd p u v) (parity_cond (v p) (count p u) ∙ ap (λ (x : Bool). v p && x) (count_odd p u))

-- ---- bounds

pub count_le : (k : ℕ) (u : Modes) → count k u ≤ k
unfolding count
count_le zero u = zero-le
count_le (suc p) u = go (u p) (count_le p u)
  where
    go : (b : Bool) → count p u ≤ p → count p u + cond b 1 0 ≤ suc p
    go true h = omega arith
    go false h = omega arith

pub exchanges_le : (m k : ℕ) (u v : Modes) → k ≤ m → exchanges k u v ≤ k * m
unfolding exchanges
exchanges_le m zero u v h = zero-le
exchanges_le m (suc p) u v h = go (v p) (exchanges_le m p u v (omega arith)) (count_le p u)
  where
    go : (b : Bool) → exchanges p u v ≤ p * m → count p u ≤ p → exchanges p u v + cond b (count p u) 0 ≤ suc p * m
    go true q l = omega (arith, suc-mul p m)
    go false q l = omega (arith, suc-mul p m)

-- counts add up as their modes do
pub count_sum : (k : ℕ) (u v x y : Modes) → ((p : ℕ) → p < k → cond (u p) 1 0 + cond (v p) 1 0 ≡ cond (x p) 1 0 + cond (y p) 1 0)
    → count k u + count k v ≡ count k x + count k y
unfolding count
count_sum zero u v x y h = refl
count_sum (suc p) u v x y h = omega (arith, count_sum p u v x y (λ i l. h i (omega arith)), h p (lt-suc_self p))

pub count_mono : (k : ℕ) (u v : Modes) → ((p : ℕ) → u p ≡ true → v p ≡ true) → count k u ≤ count k v
unfolding count
count_mono zero u v h = zero-le
count_mono (suc p) u v h = go (u p) (v p) (h p) (count_mono p u v h)
  where
    go : (a b : Bool) → (a ≡ true → b ≡ true) → count p u ≤ count p v → count p u + cond a 1 0 ≤ count p v + cond b 1 0
    go true true q l = omega arith
    go true false q l = absurd (true≢false (sym (q refl)))
    go false b q l = omega arith

-- ---- the machine's count

digit_ones : (x : ℕ) → x < 2 → ones x ≡ cond (eqb x 1) 1 0
unfolding ones
digit_ones x h = by_bit (λ (x : ℕ). ones x ≡ cond (eqb x 1) 1 0) refl refl x h

pub count_ones : (k w : ℕ) → ones (w % 2 ^ k) ≡ count k (bit w)
unfolding count ones bit
count_ones zero w = ap ones (mod-one w)
count_ones (suc p) w =
    ap (λ (x : ℕ). ones (w % 2 ^ x)) (sym (one-add p)) ∙ ap ones (mod-pow-add w 1 p)
    ∙ ones_cat p (w / 2 ^ p % 2) (w % 2 ^ p) (mod-lt w (pow_pos p))
    ∙ add_comm (ones (w / 2 ^ p % 2)) (ones (w % 2 ^ p))
    ∙ ap₂ (λ (x y : ℕ). x + y) (count_ones p w) (digit_ones (w / 2 ^ p % 2) (mod-lt (w / 2 ^ p) (zero-lt-suc 1)))

-- all bits of a word of k bits
pub ones_below_width : (k w : ℕ) → w < 2 ^ k → ones w ≡ count k (bit w)
ones_below_width k w h = ap ones (sym (mod-eq_of_lt h)) ∙ count_ones k w

pub ones_word : (w : ℕ) → w < 2 ^ 64 → ones w ≡ count 64 (bit w)
ones_word = ones_below_width 64

-- ---- words with no mode in common

abbrev pub Apart : Modes → Modes → Type 0
Apart u v = (p : ℕ) → u p && v p ≡ false

pub exchanges_both : (k : ℕ) (u v : Modes) → Apart u v → exchanges k u v + exchanges k v u ≡ count k u * count k v
unfolding exchanges count
exchanges_both zero u v h = refl
exchanges_both (suc p) u v h = go (u p) (v p) (h p) (exchanges_both p u v h)
  where
    go : (a b : Bool) → a && b ≡ false → exchanges p u v + exchanges p v u ≡ count p u * count p v
        → (exchanges p u v + cond b (count p u) 0) + (exchanges p v u + cond a (count p v) 0) ≡ (count p u + cond a 1 0) * (count p v + cond b 1 0)
    go true true q e = absurd (true≢false q)
    go true false q e = rw (add-one (count p u), add-zero (count p v)) (omega (arith, suc-mul (count p u) (count p v)))
    go false true q e = rw (add-one (count p v), add-zero (count p u)) (omega (arith, mul-suc (count p u) (count p v)))
    go false false q e = rw (add-zero (count p u), add-zero (count p v)) (omega arith)

-- ---- pairs

pairs_suc : (n : ℕ) → pairs (suc n) ≡ pairs n + n
unfolding pairs
pairs_suc zero = refl
pairs_suc (suc n) = ap (λ (x : ℕ). x / 2) (rw (less (suc n), less n) double) ∙ add-mul-div_right (suc n * (suc n - 1)) (suc n) (zero-lt-suc 1)
  where
    less : (m : ℕ) → suc m - 1 ≡ m
    less m = omega arith

    double : suc (suc n) * suc n ≡ suc n * n + suc n * 2
    double = omega (arith, suc-mul (suc n) (suc n), mul-suc (suc n) n)

zero_pairs : pairs 0 ≡ 0
unfolding pairs
zero_pairs = refl

pub exchanges_self : (k : ℕ) (u : Modes) → exchanges k u u ≡ pairs (count k u)
unfolding exchanges count
exchanges_self zero u = sym zero_pairs
exchanges_self (suc p) u = go (u p) (exchanges_self p u)
  where
    go : (a : Bool) → exchanges p u u ≡ pairs (count p u) → exchanges p u u + cond a (count p u) 0 ≡ pairs (count p u + cond a 1 0)
    go true e = ap (λ (x : ℕ). x + count p u) e ∙ sym (ap pairs (add-one (count p u)) ∙ pairs_suc (count p u))
    go false e = add-zero (exchanges p u u) ∙ e ∙ ap pairs (sym (add-zero (count p u)))
