use Rattle.fermion.proofs.InRows.{Laid}
use Rattle.fermion.proofs.in_rows.Given as goal

abbrev pub invariant-loop-i : goal.invariant-loop-i
invariant-loop-i l = Laid l.rows l.i l.m
