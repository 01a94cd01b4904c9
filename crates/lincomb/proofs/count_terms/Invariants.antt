use Prim.Native.Nat.{◌+◌, ◌-◌, ◌≤◌}
use lib.ListN.{length}
use Rattle.lincomb.specs.Merging.{onward}
use Rattle.lincomb.proofs.Tallying.{Tallying}
use Rattle.lincomb.proofs.count_terms.Given as goal

abbrev pub invariant-loop-i : goal.invariant-loop-i
invariant-loop-i l =
    (l.i ≤ length l.a) × (l.j ≤ length l.b)
    × Tallying (onward l.sign.0 l.a 0 l.b 0) (onward l.sign.0 l.a l.i l.b l.j) l.n l.w

abbrev pub decreases-loop-i : goal.decreases-loop-i
decreases-loop-i l = length l.a + length l.b - (l.i + l.j)
