-- The lowest mode of a set of modes below any k, and that of a word as the machine finds it.
use mathlib.Core.Path.{◌≡◌, refl, sym, ap, ◌∙◌, fun_ext}
use mathlib.Core.Bool.{Bool, true, false, cond, true≢false}
use mathlib.Core.Logic.{◌⊎◌, inl, inr}
use Prim.Native.Nat.{ℕ, zero, suc, ◌/◌, ◌%◌, ◌^◌, ◌≤◌, ◌<◌}
use native.Mathlib.Nat.{le_antisymm, le_of_suc-le-suc, not-suc-le-zero, mod-lt, zero-lt-suc}
use native.Mathlib.Omega.{arith}
use lib.Dec.{eqb}
use lib.Count.{count_trailing_zeros, under}
use Rattle.modes.specs.Words.{Modes, bit, lowest_mode}
use Rattle.modes.proofs.Digits.{lt_or_ge, by_bit, bit_above, bit_half, bit_none, bit_zero, ext}

-- no mode below it is in the set
pub lowest_none : (k : ℕ) (u : Modes) (q : ℕ) → q < lowest_mode k u → u q ≡ false
unfolding lowest_mode
lowest_none zero u q l = absurd (not-suc-le-zero l)
lowest_none (suc k) u q l = go (lowest_none k (λ p. u (suc p))) (u 0) refl q l
  where
    rest : ℕ
    rest = lowest_mode k (λ p. u (suc p))

    go : ((q : ℕ) → q < rest → u (suc q) ≡ false) → (b : Bool) → u 0 ≡ b → (q : ℕ) → q < cond b 0 (suc rest) → u q ≡ false
    go rec true e q l = absurd (not-suc-le-zero l)
    go rec false e zero l = e
    go rec false e (suc q) l = rec q (le_of_suc-le-suc l)

-- it is in the set itself, unless there is none
pub lowest_has : (k : ℕ) (u : Modes) → lowest_mode k u < k → u (lowest_mode k u) ≡ true
unfolding lowest_mode
lowest_has zero u l = absurd (not-suc-le-zero l)
lowest_has (suc k) u l = go (lowest_has k (λ p. u (suc p))) (u 0) refl l
  where
    rest : ℕ
    rest = lowest_mode k (λ p. u (suc p))

    go : (rest < k → u (suc rest) ≡ true) → (b : Bool) → u 0 ≡ b → cond b 0 (suc rest) < suc k → u (cond b 0 (suc rest)) ≡ true
    go rec true e l = e
    go rec false e l = rec (le_of_suc-le-suc l)

-- a mode of the set below which the set has none
pub lowest_one : (k : ℕ) (u : Modes) (p : ℕ) → p < k → u p ≡ true → ((q : ℕ) → q < p → u q ≡ false) → lowest_mode k u ≡ p
lowest_one k u p l has none = le_antisymm (above (lt_or_ge p (lowest_mode k u))) (below (lt_or_ge (lowest_mode k u) p))
  where
    above : (p < lowest_mode k u) ⊎ (lowest_mode k u ≤ p) → lowest_mode k u ≤ p
    above (inl m) = absurd (true≢false (sym has ∙ lowest_none k u p m))
    above (inr m) = m

    below : (lowest_mode k u < p) ⊎ (p ≤ lowest_mode k u) → p ≤ lowest_mode k u
    below (inl m) = absurd (true≢false (sym (lowest_has k u (omega arith)) ∙ none (lowest_mode k u) m))
    below (inr m) = m

-- a word that is not 0 has a mode
pub lowest_lt : (k w : ℕ) → w < 2 ^ k → (w ≡ 0 → ⊥) → lowest_mode k (bit w) < k
lowest_lt k w h n = go (lt_or_ge (lowest_mode k (bit w)) k)
  where
    go : (lowest_mode k (bit w) < k) ⊎ (k ≤ lowest_mode k (bit w)) → lowest_mode k (bit w) < k
    go (inl l) = l
    go (inr l) = absurd (n (ext w 0 (λ p. at p (lt_or_ge p k) ∙ sym (bit_none p))))
      where
        at : (p : ℕ) → (p < k) ⊎ (k ≤ p) → bit w p ≡ false
        at p (inl m) = lowest_none k (bit w) p (omega arith)
        at p (inr m) = bit_above k w p h m

-- the zeros that a word ends with
pub trailing_lowest : (k w : ℕ) → count_trailing_zeros k w ≡ lowest_mode k (bit w)
unfolding lowest_mode count_trailing_zeros
trailing_lowest zero w = refl
trailing_lowest (suc k) w =
    ap (under (w % 2)) (trailing_lowest k (w / 2) ∙ ap (lowest_mode k) (fun_ext (bit_half w)))
    ∙ by_bit (λ (d : ℕ). under d rest ≡ cond (eqb d 1) 0 (suc rest)) refl refl (w % 2) (mod-lt w (zero-lt-suc 1))
    ∙ ap (λ (b : Bool). cond b 0 (suc rest)) (sym (bit_zero w))
  where
    rest : ℕ
    rest = lowest_mode k (λ p. bit w (suc p))
