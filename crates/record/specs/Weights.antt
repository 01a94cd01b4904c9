-- A weight that is summed as far as the ceiling: exact up to 2^60, and some number above it where the sum is above it. For inner functions only.
use Rattle.std.specs.Prelude.{ℕ, ◌+◌, ◌^◌, cond, leb}

unfoldable pub heavier_by : ℕ → ℕ → ℕ
heavier_by k w = cond (leb w (2 ^ 60)) (w + k) w
