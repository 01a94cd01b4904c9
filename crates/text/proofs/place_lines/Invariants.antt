use Rattle.text.proofs.Placing.{Placing}
use Rattle.text.proofs.place_lines.Given as goal

abbrev pub invariant-loop-i : goal.invariant-loop-i
invariant-loop-i l = Placing l.initial.out l.terms l.out l.end l.i
