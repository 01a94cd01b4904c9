use Rattle.float_elem.proofs.Summing.{Running}
use Rattle.float_elem.proofs.sum_terms.Given as goal

abbrev pub invariant-loop-i : goal.invariant-loop-i
invariant-loop-i l = Running l.bra l.ket l.cre l.ann l.re l.im l.sum.re l.sum.im l.i
