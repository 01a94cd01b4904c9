use Rattle.report.proofs.Merging.{Merging}
use Rattle.report.proofs.merge.Given as goal

abbrev pub invariant-loop-r : goal.invariant-loop-r
invariant-loop-r l = Merging l.terms l.weights l.initial.report l.report l.r
