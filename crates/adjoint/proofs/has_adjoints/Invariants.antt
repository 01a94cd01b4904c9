use lib.ListN.{take}
use Rattle.adjoint.specs.Hermitian.{AdjointsAmong}
use Rattle.adjoint.proofs.has_adjoints.Given as goal

abbrev pub invariant-loop-i : goal.invariant-loop-i
invariant-loop-i l = AdjointsAmong l.terms (take l.i l.terms)
