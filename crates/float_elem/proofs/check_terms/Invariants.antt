use mathlib.Core.Path.{◌≡◌}
use mathlib.Core.List.{[], ◌∷◌}
use Rattle.modes.specs.Answers.{none}
use Rattle.modes.specs.Refusals.{first_refusal}
use Rattle.float_elem.specs.Elements.{term_at}
use Rattle.float_elem.proofs.check_terms.Given as goal

abbrev pub invariant-loop-i : goal.invariant-loop-i
invariant-loop-i l = first_refusal (term_at l.m l.cre l.ann (l.re ∷ l.im ∷ [])) l.i ≡ none
