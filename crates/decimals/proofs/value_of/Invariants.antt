use Rattle.decimals.proofs.Numbers.{Reading}
use Rattle.decimals.proofs.value_of.Given as goal

abbrev pub invariant-loop-b : goal.invariant-loop-b
invariant-loop-b l = Reading l.s l.made l.b-index
