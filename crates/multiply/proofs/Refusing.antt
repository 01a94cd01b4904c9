-- Numbers 8 and 7, before the result is looked at.
use mathlib.Core.Path.{◌≡◌}
use Prim.Native.Nat.{ℕ, ◌*◌, ◌/◌, ◌^◌, ◌≤◌, ◌<◌}
use native.Mathlib.Nat.{div-lt_iff_lt-mul, le-div_iff_mul-le, mul_comm, zero-mul}
use native.Mathlib.Omega.{arith}
use borrow.Author.Tests.{le-leb, lt-leb}
use Rattle.std.specs.Prelude.{Err}
use Rattle.modes.specs.Answers.{product_too_heavy, none}
use Rattle.multiply.specs.Answers.{weight_refusal}

module _ (v w : ℕ) where
  pub too_heavy : (v ≡ 0 → ⊥) → 2 ^ 60 / v < w → Err product_too_heavy ≡ weight_refusal v w
  unfolding weight_refusal
  too_heavy n h =
      let over : 2 ^ 60 < w * v = (div-lt_iff_lt-mul {k = v} (omega arith)).0 h in
      rw (mul_comm v w, lt-leb (w * v) (2 ^ 60) over)

  pub light_enough : (v ≡ 0 → ⊥) → w ≤ 2 ^ 60 / v → none ≡ weight_refusal v w
  unfolding weight_refusal
  light_enough n h = rw (mul_comm v w, le-leb (w * v) (2 ^ 60) ((le-div_iff_mul-le {k = v} (omega arith)).0 h))

  pub nothing_heavy : v ≡ 0 → none ≡ weight_refusal v w
  unfolding weight_refusal
  nothing_heavy e = rw (e, zero-mul w)
