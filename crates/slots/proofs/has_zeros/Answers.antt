-- `slots::has_zeros` meets its contract: three words are zero.
use native.Mathlib.Omega.{arith}
use Prim.Native.Nat.{◌*◌, ◌+◌}
use Rattle.std.proofs.lemmas.Grind.{common_steps}
use Rattle.slots.proofs.Judging.{three_words}
use Rattle.slots.proofs.has_zeros.Goals as goal

pub returns-then-word-eq0-2 : goal.returns-then-word-eq0-2
returns-then-word-eq0-2 c = grind (arith, common_steps, three_words c.args.h.now (32 * c.args.i + 8))

pub returns-else-word-eq0-2 : goal.returns-else-word-eq0-2
returns-else-word-eq0-2 c = grind (arith, common_steps, three_words c.args.h.now (32 * c.args.i + 8))
