-- `record::count_below` meets its contract: a term without creations is the first that its annihilation word can have.
use mathlib.Core.Path.{refl, ◌∙◌}
use Rattle.record.proofs.Blocks.{count_earlier}
use Rattle.record.proofs.Terms.count_below.Goals as goal

pub returns : goal.returns
returns c = c.count_before.ensures ∙ count_earlier _ _ refl
