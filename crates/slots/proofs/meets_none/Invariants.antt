use mathlib.Core.Path.{◌≡◌}
use mathlib.Core.Bool.{true}
use Rattle.slots.specs.Half.{meets_none}
use Rattle.slots.proofs.meets_none.Given as goal

abbrev pub invariant-loop-i : goal.invariant-loop-i
invariant-loop-i l = meets_none l.h l.i l.p l.n ≡ true
