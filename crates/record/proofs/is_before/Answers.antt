-- `record::is_before` meets its contract: annihilations first, then creations.
use borrow.Author.Tests.{lt-ltb, le-ltb, eq-eqb, ne_eqb}
use Rattle.record.specs.Terms.{before}
use Rattle.record.proofs.is_before.Goals as goal

pub returns-then-t-u : goal.returns-then-t-u
unfolding before
returns-then-t-u c = rw (lt-ltb _ _ c.if-t-u.true)

pub returns-then-t-u-2 : goal.returns-then-t-u-2
unfolding before
returns-then-t-u-2 c = rw (le-ltb _ _ c.if-t-u.false, ne_eqb _ _ c.if-t-u-2.true)

pub returns : goal.returns
unfolding before
returns c = rw (le-ltb _ _ c.if-t-u.false, eq-eqb _ _ c.if-t-u-2.false)
