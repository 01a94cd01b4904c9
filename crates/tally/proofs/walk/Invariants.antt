use Rattle.tally.specs.Walks.{Seeing, Tallying}
use Rattle.tally.proofs.walk.Given as goal

abbrev pub invariant-loop-i : goal.invariant-loop-i
invariant-loop-i l = Seeing l.m l.terms l.seen l.i × Tallying l.terms l.i l.counts l.weights
