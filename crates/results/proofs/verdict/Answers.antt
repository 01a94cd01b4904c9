-- `results::verdict` meets its contract: 10 before 9 before 11.
use Rattle.results.proofs.Results.{too_many, too_heavy, too_long, none_late}
use native.Mathlib.Omega.{arith}
use Rattle.results.proofs.verdict.Goals as goal

pub returns-then-n-gt-MOST_TERMS : goal.returns-then-n-gt-MOST_TERMS
returns-then-n-gt-MOST_TERMS c = too_many _ _ _ c.if-n-gt-MOST_TERMS.true

pub returns-then-w-gt-HEAVIEST : goal.returns-then-w-gt-HEAVIEST
returns-then-w-gt-HEAVIEST c = too_heavy _ _ _ c.if-n-gt-MOST_TERMS.false c.if-w-gt-HEAVIEST.true

pub returns-then-room-length_of : goal.returns-then-room-length_of
returns-then-room-length_of c = too_long _ _ _ c.if-n-gt-MOST_TERMS.false c.if-w-gt-HEAVIEST.false (omega (arith, c.length_of.ensures))

pub returns : goal.returns
returns c = none_late _ _ _ c.if-n-gt-MOST_TERMS.false c.if-w-gt-HEAVIEST.false (omega (arith, c.length_of.ensures))
