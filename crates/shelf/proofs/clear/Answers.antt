-- `shelf::clear` meets its contract.
use mathlib.Core.Path.{refl}
use Rattle.shelf.specs.Steps.{step}
use Rattle.shelf.proofs.clear.Goals as goal

pub returns : goal.returns
unfolding step
returns c = record { answer = refl; output = refl; bytes = c.wipe.ensures }
