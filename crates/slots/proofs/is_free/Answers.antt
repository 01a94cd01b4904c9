-- `slots::is_free` meets its contract: the first word is zero, and what is after it.
use native.Mathlib.Omega.{arith}
use Prim.Native.Nat.{◌*◌}
use Rattle.std.proofs.lemmas.Grind.{common_steps}
use Rattle.slots.proofs.Wholes.{zero_parts}
use Rattle.slots.proofs.is_free.Goals as goal

pub returns-then-word-eq0 : goal.returns-then-word-eq0
returns-then-word-eq0 c = grind (arith, common_steps, zero_parts 8 24 c.args.h.now (32 * c.args.i))

pub returns-else-word-eq0 : goal.returns-else-word-eq0
returns-else-word-eq0 c = grind (arith, common_steps, zero_parts 8 24 c.args.h.now (32 * c.args.i))
