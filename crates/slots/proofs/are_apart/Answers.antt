-- `slots::are_apart` meets its contract.
use borrow.Author.Rules.{rules}
use native.Mathlib.Omega.{arith}
use Rattle.std.proofs.lemmas.Grind.{common_steps}
use borrow.Author.Tests.{le-leb, lt-leb}
use Rattle.slots.specs.Half.{apart}
use Rattle.slots.proofs.are_apart.Goals as goal

pub returns-then-p-n : goal.returns-then-p-n
unfolding apart
returns-then-p-n c = search (rules, le-leb, lt-leb)

pub returns-else-p-n : goal.returns-else-p-n
unfolding apart
returns-else-p-n c = grind (arith, common_steps, lt-leb)
