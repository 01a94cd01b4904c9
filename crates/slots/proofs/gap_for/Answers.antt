-- `slots::gap_for` meets its contract: no place passed has room, and each record met ends farther.
use native.Mathlib.Omega.{arith}
use Rattle.slots.proofs.Gaps.{search_starts, search_jumps, search_less, search_finds, search_fails}
use Rattle.slots.proofs.gap_for.Goals as goal

pub loop-end-init : goal.loop-end-init
loop-end-init c = search_starts _ _

pub loop-end-smaller : goal.loop-end-smaller
loop-end-smaller c = search_less _ _ _ c.loop-end.invariant _ c.in-Some.ensures c.requires.0

pub loop-end-preserved : goal.loop-end-preserved
loop-end-preserved c = search_jumps _ _ _ c.loop-end.invariant _ c.in-Some.ensures c.requires.0

pub returns-then-p-n-le-HALF : goal.returns-then-p-n-le-HALF
returns-then-p-n-le-HALF c =
    (search_finds _ _ _ c.loop-end.invariant c.in_default.ensures c.if-p-n-le-HALF.true c.requires.1, omega arith)

pub returns-else-p-n-le-HALF : goal.returns-else-p-n-le-HALF
returns-else-p-n-le-HALF c = search_fails _ _ _ c.loop-end.invariant c.if-p-n-le-HALF.false
