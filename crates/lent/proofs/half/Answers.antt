-- `lent::half` meets its contract: the number is read byte by byte.
use Prim.Native.Nat.{◌+◌}
use native.Mathlib.Omega.{arith}
use Rattle.lent.proofs.NumbersAt.{num_step, num_along, num_none}
use Rattle.lent.proofs.half.Goals as goal

pub returns : goal.returns
returns c =
    let l = c.args.s.now in
    let o = c.args.at in (
      omega (
        arith,
        c.from_le_bytes.ensures,
        num_step 3 l o (omega arith),
        num_along 2 1 l o (omega arith),
        num_along 1 2 l o (omega arith),
        num_along 0 3 l o (omega arith),
        num_none l (o + 4),
      ),
      c.from_le_bytes.type_inv,
    )
