use mathlib.Core.List.{map}
use Rattle.mat_elem.specs.Matrix.{row_of, zero_row}
use Rattle.mat_elem.proofs.Filling.{Filled}
use Rattle.mat_elem.proofs.project.Given as goal

abbrev pub invariant-loop-i : goal.invariant-loop-i
invariant-loop-i l = Filled (map (row_of l.terms l.basis) l.basis) zero_row 8 l.i l.rows
