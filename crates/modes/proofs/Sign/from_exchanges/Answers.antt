-- `modes::Sign::from_exchanges` meets its contract: the code's test is the definition's.
use mathlib.Core.Path.{sym}
use borrow.Author.Tests.{eq-eqb, ne_eqb}
use Rattle.modes.proofs.Sign.from_exchanges.Goals as goal

pub returns-then-n-eq1 : goal.returns-then-n-eq1
returns-then-n-eq1 c = sym (eq-eqb _ 1 c.if-n-eq1.true)

pub returns-else-n-eq1 : goal.returns-else-n-eq1
returns-else-n-eq1 c = sym (ne_eqb _ 1 c.if-n-eq1.false)
