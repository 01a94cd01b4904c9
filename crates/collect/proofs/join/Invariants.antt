use Rattle.collect.proofs.Joining.{Joining}
use Rattle.collect.proofs.join.Given as goal

abbrev pub invariant-loop-i : goal.invariant-loop-i
invariant-loop-i l = Joining l.n l.i l.initial.work l.work l.o.place l.o.row
