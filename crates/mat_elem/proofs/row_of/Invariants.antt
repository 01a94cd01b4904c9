use mathlib.Core.List.{map}
use lib.IntN.{pos}
use Rattle.products.specs.Operators.{element}
use Rattle.mat_elem.proofs.Filling.{Filled}
use Rattle.mat_elem.proofs.row_of.Given as goal

abbrev pub invariant-loop-j : goal.invariant-loop-j
invariant-loop-j l = Filled (map (λ ket. element l.bra ket l.terms) l.basis) (pos 0) 8 l.j l.entries
