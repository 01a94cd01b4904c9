use Rattle.record.specs.Layout.{terms_in}
use Rattle.record.proofs.Checking.{Going}
use Rattle.record.proofs.check_terms.Given as goal

abbrev pub invariant-loop-i : goal.invariant-loop-i
invariant-loop-i l = Going l.operand l.m (terms_in l.s l.n) l.last l.w l.i
