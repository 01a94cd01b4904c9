-- `products::rows_fit` meets its contract: up to 58 branching modes the shift is exact, and from 59 on no slice is long enough.
use mathlib.Core.Path.{◌≡◌, sym, ap}
use mathlib.Core.Bool.{false}
use Prim.Native.Nat.{ℕ, ◌*◌, ◌%◌, ◌^◌, ◌≤◌, ◌<◌}
use native.Mathlib.Nat.{mod-eq_of_lt}
use native.Mathlib.Omega.{arith}
use lib.Count.{ones}
use lib.Dec.{leb}
use lib.Pow.{pow_mono}
use borrow.Author.Tests.{lt-leb}
use Rattle.products.proofs.rows_fit.Goals as goal

one_row : (left room : ℕ) → left ≡ 0 → leb 24 room ≡ leb (24 * 2 ^ ones left) room
unfolding ones
one_row left room e = rw e

too_many : (n room : ℕ) → 58 < n → room < 2 ^ 63 → leb (24 * 2 ^ n) room ≡ false
too_many n room h l = lt-leb (24 * 2 ^ n) room (omega (arith, pow_mono h))

exact : (n room : ℕ) → n ≤ 58 → leb ((24 * 2 ^ n) % 2 ^ 64) room ≡ leb (24 * 2 ^ n) room
exact n room h = ap (λ (x : ℕ). leb x room) (mod-eq_of_lt (omega (arith, pow_mono h)))

pub returns-then-left-eq0 : goal.returns-then-left-eq0
returns-then-left-eq0 c = one_row c.args.left c.args.room c.if-left-eq0.true

pub returns-then-n_bif-gt58 : goal.returns-then-n_bif-gt58
returns-then-n_bif-gt58 c =
    sym (too_many (ones c.args.left) c.args.room c.if-n_bif-gt58.true c.requires)

pub returns : goal.returns
returns c = exact (ones c.args.left) c.args.room c.if-n_bif-gt58.false
