use mathlib.Core.Path.{◌≡◌}
use mathlib.Core.Bool.{true}
use Rattle.modes.specs.Words.{each}
use Rattle.slots.proofs.Wholes.{is_right}
use Rattle.slots.proofs.is_whole.Given as goal

abbrev pub invariant-loop-i : goal.invariant-loop-i
invariant-loop-i l = each l.i (is_right l.h) ≡ true
