use Rattle.decimals.proofs.Numbers.{Reading, Good}
use Rattle.decimals.proofs.read_number.Given as goal

abbrev pub invariant-loop-b : goal.invariant-loop-b
invariant-loop-b l = record { read : Reading l.s l.value l.b-index; good : Good l.s l.b-index }
