-- `compare::is_ahead` meets its contract: the counts of annihilations decide, or the order of terms.
use mathlib.Core.Path.{◌∙◌}
use Rattle.compare.proofs.Ahead.{by_count, by_words}
use Rattle.compare.proofs.is_ahead.Goals as goal

pub returns-then-x-y : goal.returns-then-x-y
returns-then-x-y c = by_count _ _ _ _ c.modes_in-x.ensures.0 c.modes_in-y.ensures.0 c.if-x-y.true

pub returns : goal.returns
returns c =
    c.is_before.ensures ∙ by_words _ _ _ _ c.modes_in-x.ensures.0 c.modes_in-y.ensures.0 c.if-x-y.false
