-- `modes::is_inside` meets its contract: it looks at the union of the two words.
use mathlib.Core.Path.{◌∙◌}
use Rattle.modes.proofs.Spaces.{inside_both}
use Rattle.modes.proofs.is_inside.Goals as goal

pub returns : goal.returns
returns c = c.contains.ensures ∙ inside_both _ _ _
