-- `mat_elem::stands_earlier` meets its contract.
use mathlib.Core.Path.{◌∙◌}
use Rattle.mat_elem.proofs.Bases.{contains_is}
use Rattle.mat_elem.proofs.stands_earlier.Goals as goal

pub returns : goal.returns
returns c = c.contains.ensures.value ∙ contains_is _ _
