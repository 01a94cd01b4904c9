use Prim.Native.Nat.{◌-◌}
use Rattle.slots.proofs.Gaps.{Searching}
use Rattle.slots.proofs.gap_for.Given as goal

abbrev pub invariant-loop-end : goal.invariant-loop-end
invariant-loop-end l = Searching l.h l.n l.p

abbrev pub decreases-loop-end : goal.decreases-loop-end
decreases-loop-end l = 32768 - l.p
