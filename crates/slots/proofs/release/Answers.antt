-- `slots::release` meets its contract: two parts wiped.
use Rattle.slots.proofs.Lending.{released}
use Rattle.slots.proofs.release.Goals as goal

pub returns : goal.returns
returns c =
    released _ _ c.told-h c.requires.0 _ _ _ _ c.requires.1 c.wipe.ensures c.wipe-2.ensures
