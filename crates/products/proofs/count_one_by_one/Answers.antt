-- `products::count_one_by_one` meets its contract. The invariant: what is counted, and what is left to count, make the whole.
use Prim.Native.Nat.{◌-◌}
use native.Mathlib.Nat.{le_refl}
use native.Mathlib.Omega.{arith}
use lib.Bits.{and_le_l}
use Rattle.modes.specs.Words.{bit}
use Rattle.modes.proofs.Counts.{exchanges_le}
use Rattle.modes.proofs.Lowest.{turn, less_lt, exchanges_end}
use Rattle.products.proofs.count_one_by_one.Goals as goal

pub loop-rest-init : goal.loop-rest-init
loop-rest-init c = (omega arith, omega arith)

pub overflow_sub-less : goal.overflow_sub-less
overflow_sub-less c = omega arith

pub overflow_sub-lowest : goal.overflow_sub-lowest
overflow_sub-lowest c = and_le_l c.loop-rest.rest (c.loop-rest.rest - 1)

pub overflow_sub-count : goal.overflow_sub-count
overflow_sub-count c = omega (arith, less_lt c.loop-rest.rest (omega arith))

pub overflow_add-count : goal.overflow_add-count
overflow_add-count c =
    record {
      fits = omega (arith, turn 64 c.args.word c.loop-rest.rest (omega arith) (omega arith), exchanges_le 64 64 (bit c.args.word) (bit c.args.at) (le_refl 64));
    }

pub loop-rest-smaller : goal.loop-rest-smaller
loop-rest-smaller c = less_lt c.loop-rest.rest (omega arith)

pub loop-rest-preserved : goal.loop-rest-preserved
loop-rest-preserved c =
    (omega (arith, less_lt c.loop-rest.rest (omega arith)), omega (arith, turn 64 c.args.word c.loop-rest.rest (omega arith) (omega arith)))

pub returns : goal.returns
returns c = omega (arith, exchanges_end 64 (bit c.args.word) c.loop-rest.rest c.loop-rest-test.false)
