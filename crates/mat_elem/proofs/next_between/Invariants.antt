use Rattle.mat_elem.proofs.Summing.{Passing}
use Rattle.mat_elem.proofs.next_between.Given as goal

abbrev pub invariant-loop-i : goal.invariant-loop-i
invariant-loop-i l = Passing l.bra l.ket l.terms l.from l.i
