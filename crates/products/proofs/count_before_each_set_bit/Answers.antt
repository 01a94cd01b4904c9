-- `products::count_before_each_set_bit` meets its contract: both ways give the count, which is small.
use mathlib.Core.Path.{◌≡◌}
use Prim.Native.Nat.{ℕ, ◌≤◌}
use native.Mathlib.Nat.{le_refl}
use native.Mathlib.Omega.{arith}
use Rattle.modes.specs.Words.{bit}
use Rattle.modes.specs.Counts.{exchanges}
use Rattle.modes.proofs.Counts.{exchanges_le}
use Rattle.products.proofs.count_before_each_set_bit.Goals as goal

small : (word at r : ℕ) → r ≡ exchanges 64 (bit word) (bit at) → (r ≡ exchanges 64 (bit word) (bit at)) × (r ≤ 4096)
small word at r e = (e, omega (arith, e, exchanges_le 64 64 (bit word) (bit at) (le_refl 64)))

pub returns-then-at-le8 : goal.returns-then-at-le8
returns-then-at-le8 c = small _ _ _ c.count_one_by_one.ensures

pub returns : goal.returns
returns c = small _ _ _ c.count_by_digits.ensures
