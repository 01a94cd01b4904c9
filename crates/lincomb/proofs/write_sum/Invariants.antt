use Prim.Native.Nat.{◌+◌, ◌-◌, ◌≤◌}
use lib.ListN.{length}
use Rattle.lincomb.specs.Merging.{onward}
use Rattle.lincomb.proofs.Writing.{Writing}
use Rattle.lincomb.proofs.write_sum.Given as goal

abbrev pub invariant-loop-i : goal.invariant-loop-i
invariant-loop-i l =
    (l.i ≤ length l.a) × (l.j ≤ length l.b)
    × Writing l.n (onward l.sign.0 l.a 0 l.b 0) (onward l.sign.0 l.a l.i l.b l.j) l.k l.out

abbrev pub decreases-loop-i : goal.decreases-loop-i
decreases-loop-i l = length l.a + length l.b - (l.i + l.j)
