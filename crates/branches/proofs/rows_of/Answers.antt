-- `branches::rows_of` meets its contract: up to 58 branching modes the shift is exact, and from 59 on the rows are above the ceiling.
use mathlib.Core.Path.{◌≡◌, sym, ◌∙◌}
use Prim.Native.Nat.{ℕ, ◌+◌, ◌*◌, ◌%◌, ◌^◌, ◌≤◌, ◌<◌}
use native.Mathlib.Omega.{arith}
use lib.Count.{ones}
use lib.Pow.{pow_mono}
use Rattle.modes.proofs.Digits.{one_shifted}
use Rattle.branches.specs.Ceiling.{most, up_to}
use Rattle.branches.proofs.Ceiling.{up_exact, up_over}
use Rattle.branches.proofs.rows_of.Goals as goal

above : (n : ℕ) → 58 < n → most + 1 ≡ up_to (2 ^ n)
above n h = sym (up_over (2 ^ n) (omega (arith, pow_mono h)))

shifted : (n : ℕ) → n ≤ 58 → (1 * 2 ^ n) % 2 ^ 64 ≡ up_to (2 ^ n)
shifted n h = let p = pow_mono h in one_shifted n (omega arith) ∙ sym (up_exact (2 ^ n) (omega arith))

pub returns-then-n_bif-gt58 : goal.returns-then-n_bif-gt58
returns-then-n_bif-gt58 c = above (ones c.args.left) c.if-n_bif-gt58.true

pub returns : goal.returns
returns c = shifted (ones c.args.left) c.if-n_bif-gt58.false
