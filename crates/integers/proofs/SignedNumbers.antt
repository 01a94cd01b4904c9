-- Signed numbers of 64 bits: their range, and their bits.
use Prim.Native.Nat.{ℕ, zero, suc, ◌+◌, ◌-◌, ◌*◌, ◌≤◌, ◌<◌, ◌^◌}
use mathlib.Core.Path.{◌≡◌, refl, sym, ◌∙◌, ap}
use mathlib.Core.Bool.{Bool, true, false, cond}
use native.Mathlib.Omega.{arith}
use borrow.Author.Tests.{ltb-true}
use lib.IntN.{ℤ, pos, negsuc, neg_ℤ, nat_abs, ◌+ℤ◌, ◌*ℤ◌}
use lib.Dec.{ltb}
use lib.Signed.{lt_z}
use mir.Syntax.{w64}
use mir.Val.{SFits, to_z, of_z}
use mir.Facts.{to_z-of_z}

pub neg_fits : (x : ℤ) → nat_abs x < 2 ^ 63 → SFits w64 (neg_ℤ x)
neg_fits (pos zero) h = record { sfits = h }
neg_fits (pos (suc n)) h = record { sfits = omega arith }
neg_fits (negsuc n) h = record { sfits = h }

-- the code's test is on the bits
pub tested : (z : ℤ) (t : Bool) → SFits w64 z → lt_z (to_z w64 (of_z w64 z)) (pos 0) ≡ t → lt_z z (pos 0) ≡ t
tested z t f e = rw (to_z-of_z f) at e

-- a number is zero exactly if its bits are
pub zero_bits : (z : ℤ) → SFits w64 z → of_z w64 z ≡ 0 → nat_abs z ≡ 0
zero_bits z f e = ap nat_abs (sym (to_z-of_z f) ∙ ap (to_z w64) e)

pub nonzero_bits : (z : ℤ) → (of_z w64 z ≡ 0 → ⊥) → nat_abs z ≡ 0 → ⊥
nonzero_bits (pos n) h e = h (ap (λ (k : ℕ). of_z w64 (pos k)) e)
nonzero_bits (negsuc n) h e = absurd (omega (arith, e))

-- below 2^63 from zero
pub abs_fits : (z : ℤ) → nat_abs z < 2 ^ 63 → SFits w64 z
abs_fits (pos n) h = record { sfits = h }
abs_fits (negsuc n) h = record { sfits = omega arith }

-- a sum is no further from zero than its parts together
difference_at : (a b : ℕ) (t : Bool) → ltb a b ≡ t → nat_abs (cond t (negsuc (b - suc a)) (pos (a - b))) ≤ a + b
difference_at a b true e = omega (arith, ltb-true a b e)
difference_at a b false e = omega arith

pub abs_sum : (x y : ℤ) → nat_abs (x +ℤ y) ≤ nat_abs x + nat_abs y
abs_sum (pos a) (pos b) = omega arith
abs_sum (pos a) (negsuc b) = difference_at a (suc b) (ltb a (suc b)) refl
abs_sum (negsuc a) (pos b) = let h = difference_at b (suc a) (ltb b (suc a)) refl in omega arith
abs_sum (negsuc a) (negsuc b) = omega arith

pub sum_fits : (x y : ℤ) → nat_abs x + nat_abs y < 2 ^ 63 → SFits w64 (x +ℤ y)
sum_fits x y h = abs_fits (x +ℤ y) (omega (arith, abs_sum x y))

-- a product is as far from zero as its factors say
abs_neg : (n : ℕ) → nat_abs (neg_ℤ (pos n)) ≡ n
abs_neg zero = refl
abs_neg (suc n) = refl

pub abs_product : (x y : ℤ) → nat_abs (x *ℤ y) ≡ nat_abs x * nat_abs y
abs_product (pos a) (pos b) = refl
abs_product (pos a) (negsuc b) = abs_neg (a * suc b)
abs_product (negsuc a) (pos b) = abs_neg (suc a * b)
abs_product (negsuc a) (negsuc b) = refl

pub product_fits : (x y : ℤ) → nat_abs x * nat_abs y < 2 ^ 63 → SFits w64 (x *ℤ y)
product_fits x y h = abs_fits (x *ℤ y) (rw (abs_product x y) h)
