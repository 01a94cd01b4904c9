-- Sets of modes at any width: the parity of the exchange count is bilinear under `△` in both arguments, and what holds at every mode.
use mathlib.Core.Path.{◌≡◌, refl, sym, ap, ap₂, ◌∙◌}
use mathlib.Core.Bool.{Bool, true, false, ◌&&◌, and-false}
use mathlib.Core.Logic.{◌⊎◌, inl, inr}
use Prim.Native.Nat.{ℕ, zero, suc, ◌<◌}
use native.Mathlib.Nat.{lt-suc_self, eq-or-lt_of_le, le_of_suc-le-suc, not-suc-le-zero}
use native.Mathlib.Omega.{arith}
use Rattle.modes.specs.Bools.{◌⊕◌, same}
use Rattle.modes.specs.Words.{Modes, ◌△◌, each}
use Rattle.modes.specs.Counts.{odd, odd_exchanges}
use Rattle.modes.proofs.Bools.{⊕_false, parity_sum, swap4, and_⊕, and_⊕_r, of_same, at4, and_l, and_r}

pub △_at : (u v : Modes) (p : ℕ) → (u △ v) p ≡ u p ⊕ v p
unfolding ◌△◌
△_at u v p = refl

pub odd_cong : (k : ℕ) (u v : Modes) → ((p : ℕ) → p < k → u p ≡ v p) → odd k u ≡ odd k v
unfolding odd
odd_cong zero u v h = refl
odd_cong (suc p) u v h = ap₂ (λ (x y : Bool). x ⊕ y) (odd_cong p u v (λ i l. h i (omega arith))) (h p (lt-suc_self p))

pub odd_△ : (k : ℕ) (u v : Modes) → odd k (u △ v) ≡ odd k u ⊕ odd k v
unfolding odd ◌△◌
odd_△ zero u v = sym (⊕_false false)
odd_△ (suc p) u v = rw (odd_△ p u v) (simp parity_sum)

pub odd_exchanges_△_l : (k : ℕ) (u v w : Modes) → odd_exchanges k (u △ v) w ≡ odd_exchanges k u w ⊕ odd_exchanges k v w
unfolding odd_exchanges
odd_exchanges_△_l zero u v w = sym (⊕_false false)
odd_exchanges_△_l (suc p) u v w = rw (odd_exchanges_△_l p u v w, odd_△ p u v, and_⊕_r (w p) (odd p u) (odd p v)) (swap4 _ _ _ _)

pub odd_exchanges_△_r : (k : ℕ) (w u v : Modes) → odd_exchanges k w (u △ v) ≡ odd_exchanges k w u ⊕ odd_exchanges k w v
unfolding odd_exchanges ◌△◌
odd_exchanges_△_r zero w u v = sym (⊕_false false)
odd_exchanges_△_r (suc p) w u v = rw (odd_exchanges_△_r p w u v, and_⊕ (u p) (v p) (odd p w)) (swap4 _ _ _ _)

-- ---- what holds at every mode below k

pub each_cong : (k : ℕ) (f g : ℕ → Bool) → ((p : ℕ) → p < k → f p ≡ g p) → each k f ≡ each k g
unfolding each
each_cong zero f g h = refl
each_cong (suc k) f g h = ap₂ (λ (x y : Bool). x && y) (each_cong k f g (λ p l. h p (omega arith))) (h k (lt-suc_self k))

pub each_and : (k : ℕ) (f g : ℕ → Bool) → each k (λ p. f p && g p) ≡ each k f && each k g
unfolding each
each_and zero f g = refl
each_and (suc k) f g =
    ap (λ (x : Bool). x && (f k && g k)) (each_and k f g)
    ∙ of_same _ _ (at4 (λ a b c d. same ((a && b) && (c && d)) ((a && c) && (b && d))) refl (each k f) (each k g) (f k) (g k))

pub each_all : (k : ℕ) (f : ℕ → Bool) → ((p : ℕ) → p < k → f p ≡ true) → each k f ≡ true
unfolding each
each_all zero f h = refl
each_all (suc k) f h = rw (each_all k f (λ p l. h p (omega arith)), h k (lt-suc_self k))

pub each_at : (k : ℕ) (f : ℕ → Bool) → each k f ≡ true → (p : ℕ) → p < k → f p ≡ true
unfolding each
each_at zero f h p l = absurd (not-suc-le-zero l)
each_at (suc k) f h p l = go (λ e. each_at k f e p) (eq-or-lt_of_le (le_of_suc-le-suc l))
  where
    go : (each k f ≡ true → p < k → f p ≡ true) → (p ≡ k) ⊎ (p < k) → f p ≡ true
    go rec (inl e) = ap f e ∙ and_r (each k f) (f k) h
    go rec (inr m) = rec (and_l (each k f) (f k) h) m

-- ---- modes that are not there count nothing

pub odd_none : (k : ℕ) (u : Modes) → ((p : ℕ) → p < k → u p ≡ false) → odd k u ≡ false
unfolding odd
odd_none zero u h = refl
odd_none (suc k) u h = rw (odd_none k u (λ p l. h p (omega arith)), h k (lt-suc_self k)) (⊕_false false)

pub odd_exchanges_none : (k : ℕ) (u v : Modes) → ((p : ℕ) → p < k → u p ≡ false) → odd_exchanges k u v ≡ false
unfolding odd_exchanges
odd_exchanges_none zero u v h = refl
odd_exchanges_none (suc k) u v h =
    rw (odd_exchanges_none k u v (λ p l. h p (omega arith)), odd_none k u (λ p l. h p (omega arith)), and-false (v k)) (⊕_false false)
