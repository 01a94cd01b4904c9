use Rattle.lines.proofs.Pieces.{Looking}
use Rattle.lines.proofs.piece_end.Given as goal

abbrev pub invariant-loop-end : goal.invariant-loop-end
invariant-loop-end l = Looking l.mark l.s l.at l.end
