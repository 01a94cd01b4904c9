use mathlib.Core.Path.{◌≡◌}
use Rattle.modes.specs.Answers.{none}
use Rattle.modes.specs.Refusals.{first_refusal}
use Rattle.mat_elem.specs.Matrix.{outside_at}
use Rattle.mat_elem.proofs.outside_refusal.Given as goal

abbrev pub invariant-loop-i : goal.invariant-loop-i
invariant-loop-i l = first_refusal (outside_at l.space.count l.basis) l.i ≡ none
