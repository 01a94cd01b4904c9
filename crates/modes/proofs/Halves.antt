-- The exchange count digit by digit: with every second mode of a word, half of the modes below each mode are left to count.
use mathlib.Core.Path.{◌≡◌, refl, sym, ap, ap₂, ◌∙◌, fun_ext}
use mathlib.Core.Bool.{Bool, true, false, cond, ◌&&◌}
use Prim.Native.Nat.{ℕ, zero, suc, ◌+◌, ◌*◌, ◌^◌, ◌≤◌, ◌<◌}
use native.Mathlib.Nat.{le_trans, lt_of_le_of_lt, mul-suc, mul-add, mul_assoc}
use native.Mathlib.Omega.{arith}
use lib.Bits.{bit_and, and_le_l}
use lib.Count.{ones}
use Rattle.modes.specs.Bools.{◌⊕◌}
use Rattle.modes.specs.Words.{Modes, bit}
use Rattle.modes.specs.Counts.{count, exchanges, odd}
use Rattle.modes.proofs.Bools.{⊕_false, ⊕_self, false_⊕}
use Rattle.modes.proofs.Digits.{bit_of_and}
use Rattle.modes.proofs.Counts.{count_le, ones_below_width}

-- ---- every second mode

-- o has the modes below which an odd number of modes of u stands
module _ (u o : Modes) where
  -- every second mode of u: those with an odd number of others below
  abbrev pub second : Modes
  second i = u i && o i

  -- of the modes below p, one if they are odd, and two for each second one
  pub halved : (p : ℕ) → ((i : ℕ) → i < p → o i ≡ odd i u) → count p u ≡ cond (odd p u) 1 0 + 2 * count p second
  unfolding count odd
  halved zero h = refl
  halved (suc p) h = go (u p) (odd p u) (o p) (h p (omega arith)) (halved p (λ i l. h i (omega arith)))
    where
      go : (a b c : Bool) → c ≡ b → count p u ≡ cond b 1 0 + 2 * count p second
          → count p u + cond a 1 0 ≡ cond (b ⊕ a) 1 0 + 2 * (count p second + cond (a && c) 1 0)
      go true true c e ih = rw (e, ⊕_self true) (omega arith)
      go true false c e ih = rw (e, false_⊕ true) (omega arith)
      go false true c e ih = rw (⊕_false true) (omega arith)
      go false false c e ih = rw (⊕_false false) (omega arith)

  pub exchanges_halved : (k : ℕ) (v : Modes) → ((i : ℕ) → i < k → o i ≡ odd i u)
      → exchanges k u v ≡ count k (λ i. v i && o i) + 2 * exchanges k second v
  unfolding exchanges count
  exchanges_halved zero v h = refl
  exchanges_halved (suc p) v h =
      go (v p) (odd p u) (o p) (h p (omega arith)) (exchanges_halved p v (λ i l. h i (omega arith))) (halved p (λ i l. h i (omega arith)))
    where
      go : (a b c : Bool) → c ≡ b → exchanges p u v ≡ count p (λ i. v i && o i) + 2 * exchanges p second v
          → count p u ≡ cond b 1 0 + 2 * count p second
          → exchanges p u v + cond a (count p u) 0
          ≡ (count p (λ i. v i && o i) + cond (a && c) 1 0) + 2 * (exchanges p second v + cond a (count p second) 0)
      go true true c e ih q = rw e (omega arith)
      go true false c e ih q = rw e (omega arith)
      go false b c e ih q = omega arith

-- where no mode of u stands below any, nothing is counted
exchanges_none : (k : ℕ) (u v : Modes) → ((p : ℕ) → p < k → count p u ≡ 0) → exchanges k u v ≡ 0
unfolding exchanges
exchanges_none zero u v h = refl
exchanges_none (suc p) u v h = rw (exchanges_none p u v (λ i l. h i (omega arith)), h p (omega arith)) (same (v p))
  where
    same : (b : Bool) → 0 + cond b 0 0 ≡ 0
    same true = refl
    same false = refl

-- ---- digit after digit

-- After some rounds, over words of k bits: n is counted, and the rest is what `left` gives, weight times; of w it has no more than every weight-th mode.
pub record Rounds (k w v left n weight : ℕ) : Type 0 where
  pub whole : n + weight * exchanges k (bit left) (bit v) ≡ exchanges k (bit w) (bit v)
  pub thin : (p : ℕ) → p < k → weight * count p (bit left) ≤ count p (bit w)

pub none_yet : (k w v : ℕ) → Rounds k w v w 0 1
none_yet k w v = record { whole = omega arith; thin = λ p l. omega arith }

-- a number split in its lowest digit and twice its half, as often as the weight says
weighed : (weight n digit half : ℕ) → n ≡ digit + 2 * half → weight * n ≡ weight * digit + weight * 2 * half
weighed weight n digit half e =
    ap (λ (x : ℕ). weight * x) e ∙ mul-add weight digit (2 * half) ∙ ap (λ (x : ℕ). weight * digit + x) (sym (mul_assoc weight 2 half))

-- one round more: o has the modes below which an odd number of modes of `left` stands
pub round : (k w v left n weight o : ℕ) → v < 2 ^ k → ((p : ℕ) → p < k → bit o p ≡ odd p (bit left)) → Rounds k w v left n weight
    → Rounds k w v (bit_and left o) (n + weight * ones (bit_and v o)) (weight * 2)
round k w v left n weight o small h r = record {
  whole = omega (arith, r.whole, weighed weight (exchanges k (bit left) (bit v)) (ones (bit_and v o)) (exchanges k next (bit v)) all);
  thin = λ p l. omega (arith, r.thin p l, weighed weight (count p (bit left)) (cond (odd p (bit left)) 1 0) (count p next) (below p l));
}
  where
    next : Modes
    next = bit (bit_and left o)

    both : (a b : ℕ) → (λ i. bit a i && bit b i) ≡ bit (bit_and a b)
    both a b = fun_ext (λ i. sym (bit_of_and a b i))

    all : exchanges k (bit left) (bit v) ≡ ones (bit_and v o) + 2 * exchanges k next (bit v)
    all =
        exchanges_halved (bit left) (bit o) k (bit v) h
        ∙ ap₂ (λ (x y : Modes). count k x + 2 * exchanges k y (bit v)) (both v o) (both left o)
        ∙ ap (λ (x : ℕ). x + 2 * exchanges k next (bit v)) (sym (ones_below_width k (bit_and v o) (lt_of_le_of_lt (and_le_l v o) small)))

    below : (p : ℕ) → p < k → count p (bit left) ≡ cond (odd p (bit left)) 1 0 + 2 * count p next
    below p l =
        halved (bit left) (bit o) p (λ i m. h i (omega arith))
        ∙ ap (λ (x : Modes). cond (odd p (bit left)) 1 0 + 2 * count p x) (both left o)

-- the rounds are done when the weight has reached the width, for fewer modes than that stand below one
pub all_counted : (k w v left n weight : ℕ) → k ≤ weight → Rounds k w v left n weight → n ≡ exchanges k (bit w) (bit v)
all_counted k w v left n weight m r = omega (arith, r.whole, ap (λ (x : ℕ). weight * x) (exchanges_none k (bit left) (bit v) nothing))
  where
    none : (p c : ℕ) → p < k → weight * c ≤ p → c ≡ 0
    none p zero l q = refl
    none p (suc c) l q = absurd (omega (arith, mul-suc weight c))

    nothing : (p : ℕ) → p < k → count p (bit left) ≡ 0
    nothing p l = none p (count p (bit left)) l (le_trans (r.thin p l) (count_le p (bit w)))
