-- `products::count_by_digits` meets its contract: six rounds, each of which counts one digit.
use mathlib.Core.Path.{◌≡◌}
use Prim.Native.Nat.{ℕ, suc, ◌+◌, ◌*◌, ◌%◌, ◌^◌, ◌≤◌, ◌<◌}
use native.Mathlib.Nat.{le_refl, pow-suc}
use native.Mathlib.Omega.{arith}
use Rattle.std.proofs.Math.Nat.{mod-eq_of_lt}
use Rattle.std.proofs.Math.Pow.{pow_mono}
use Rattle.modes.specs.Words.{bit}
use Rattle.modes.proofs.Counts.{exchanges_le}
use Rattle.modes.proofs.Halves.{Rounds, none_yet, round, all_counted}
use Rattle.products.proofs.count_by_digits.Goals as goal

pub loop-k-init : goal.loop-k-init
loop-k-init c = none_yet 64 _ _

-- the weight, as the code shifts it
weight : (k : ℕ) → k < 6 → 1 * 2 ^ k % 4294967296 ≡ 2 ^ k
weight k h =
    let power : 2 ^ k ≤ 2 ^ 6 = pow_mono {i = k} {j = 6} (omega (arith, h)) in
    let small : 1 * 2 ^ k < 4294967296 = omega (arith, power) in
    let same : 1 * 2 ^ k % 4294967296 ≡ 1 * 2 ^ k = mod-eq_of_lt small in
    omega (arith, same)

doubled : (k : ℕ) → 2 ^ (k + 1) ≡ 2 ^ k * 2
doubled k = let next : k + 1 ≡ suc k = omega arith in rw next (pow-suc 2 k)

pub loop-k-preserved : goal.loop-k-preserved
loop-k-preserved c =
    let l = c.loop-k in
    let below = c.odd_before-odd in
    rw (weight l.k (omega arith), doubled l.k)
    (round 64 c.args.word c.args.at l.left l.count (2 ^ l.k) below.result c.ranges.at.fits below.ensures l.invariant)

-- what is counted is a part of the whole, and so is small
part : (word at left count weight : ℕ) → Rounds 64 word at left count weight → count ≤ 4096
part word at left count weight r = omega (arith, r.whole, exchanges_le 64 64 (bit word) (bit at) (le_refl 64))

pub overflow_mul-count : goal.overflow_mul-count
overflow_mul-count c = record { fits = omega (arith, part _ _ _ _ _ (loop-k-preserved c)) }

pub overflow_add-count : goal.overflow_add-count
overflow_add-count c = record { fits = omega (arith, part _ _ _ _ _ (loop-k-preserved c)) }

pub returns : goal.returns
returns c = let six : c.loop-k.k ≡ 6 = omega arith in all_counted 64 _ _ _ _ _ (rw six (le_refl 64)) c.loop-k.invariant
