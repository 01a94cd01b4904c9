-- `modes::ModeSpace::from_count` meets its contract: the two tests are the definition's.
use native.Mathlib.Omega.{arith}
use borrow.Author.Tests.{le-leb, lt-leb}
use Rattle.modes.proofs.ModeSpace.from_count.Goals as goal

pub returns-then-count-eq0 : goal.returns-then-count-eq0
returns-then-count-eq0 c = rw (lt-leb 1 c.args.count (omega arith))

pub returns-then-count-gt-MAX : goal.returns-then-count-gt-MAX
returns-then-count-gt-MAX c = rw (le-leb 1 c.args.count (omega arith), lt-leb c.args.count 64 (omega arith))

pub returns : goal.returns
returns c = rw (le-leb 1 c.args.count (omega arith), le-leb c.args.count 64 (omega arith))
