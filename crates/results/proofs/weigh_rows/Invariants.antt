use Rattle.results.proofs.Delivering.{Weighing}
use Rattle.results.proofs.weigh_rows.Given as goal

abbrev pub invariant-loop-i : goal.invariant-loop-i
invariant-loop-i l = Weighing l.work l.n l.w l.i
