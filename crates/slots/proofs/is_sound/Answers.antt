-- `slots::is_sound` meets its contract.
use native.Mathlib.Omega.{arith}
use Rattle.std.proofs.lemmas.Grind.{common_steps}
use Rattle.slots.specs.Half.{is_sound}
use Rattle.slots.proofs.is_sound.Goals as goal

pub returns-then-place-len-le-HALF : goal.returns-then-place-len-le-HALF
unfolding is_sound
returns-then-place-len-le-HALF c = grind (arith, common_steps)

pub returns-else-place-len-le-HALF : goal.returns-else-place-len-le-HALF
unfolding is_sound
returns-else-place-len-le-HALF c = grind (arith, common_steps)
