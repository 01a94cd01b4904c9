use mathlib.Core.Path.{◌≡◌}
use mathlib.Core.List.{map}
use lib.ListN.{take}
use Rattle.record.specs.Layout.{terms_in}
use Rattle.adjoint.specs.Adjoint.{adjoint_term}
use Rattle.adjoint.proofs.put_adjoint_terms.Given as goal

abbrev pub invariant-loop-i : goal.invariant-loop-i
invariant-loop-i l = take l.i (terms_in l.out l.n) ≡ map adjoint_term (take l.i l.terms)
