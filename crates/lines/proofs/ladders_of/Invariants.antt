use Prim.Native.Nat.{◌-◌, ◌≤◌}
use lib.ListN.{length, drop}
use Rattle.lines.specs.Grammar.{space}
use Rattle.lines.specs.Reading.{rest}
use Rattle.lines.proofs.Fields.{Walking}
use Rattle.lines.proofs.ladders_of.Given as goal

abbrev pub invariant-loop-end : goal.invariant-loop-end
invariant-loop-end l = (l.end ≤ length l.line) × (l.x.count ≤ l.end) × Walking l.m (rest space (drop l.at l.line)) (rest space (drop l.end l.line)) l.x

abbrev pub decreases-loop-end : goal.decreases-loop-end
decreases-loop-end l = length l.line - l.end
