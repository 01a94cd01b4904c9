-- No two answers meet a promise of this crate.
use mathlib.Core.Path.{◌≡◌, sym, ◌∙◌}
use Prim.Native.Nat.{ℕ, ◌^◌, ◌≤◌}
use lib.IntN.{ℤ, neg_ℤ, nat_abs, ◌+ℤ◌, ◌*ℤ◌}
use mir.Syntax.{w64}
use mir.Val.{to_z, of_z}

pub one_signed : (x : ℕ) (r s : ℤ) → r ≡ to_z w64 x → s ≡ to_z w64 x → r ≡ s
one_signed x r s p q = p ∙ sym q

pub one_bits : (x : ℤ) (r s : ℕ) → r ≡ of_z w64 x → s ≡ of_z w64 x → r ≡ s
one_bits x r s p q = p ∙ sym q

pub one_magnitude : (x : ℤ) (r s : ℕ) → (r ≡ nat_abs x) × (r ≤ 2 ^ 63) → (s ≡ nat_abs x) × (s ≤ 2 ^ 63) → r ≡ s
one_magnitude x r s p q = p.0 ∙ sym q.0

pub one_sum : (x y r s : ℤ) → r ≡ x +ℤ y → s ≡ x +ℤ y → r ≡ s
one_sum x y r s p q = p ∙ sym q

pub one_negated : (x r s : ℤ) → r ≡ neg_ℤ x → s ≡ neg_ℤ x → r ≡ s
one_negated x r s p q = p ∙ sym q

pub one_product : (x y r s : ℤ) → r ≡ x *ℤ y → s ≡ x *ℤ y → r ≡ s
one_product x y r s p q = p ∙ sym q
