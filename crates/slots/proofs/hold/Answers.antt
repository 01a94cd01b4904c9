-- `slots::hold` meets its contract: the record, then place, length and zeros side by side.
use Rattle.slots.proofs.Lending.{held}
use Rattle.slots.proofs.hold.Goals as goal

pub returns : goal.returns
returns c =
    held _ _ c.told-h c.requires.0 _ _ _ _ _ _ c.requires.1 c.copy.ensures c.put_half.ensures c.put_half-2.ensures
    c.wipe.ensures
