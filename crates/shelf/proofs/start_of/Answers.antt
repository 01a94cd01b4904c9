-- `shelf::start_of` meets its contract: each way out is a test of the definition.
use Rattle.shelf.proofs.Refusals.{start_no_party, start_other_size, start_found}
use Rattle.shelf.proofs.start_of.Goals as goal

pub returns-then-party-ge-PARTIES : goal.returns-then-party-ge-PARTIES
returns-then-party-ge-PARTIES c = start_no_party _ _ c.if-party-ge-PARTIES.true

pub returns-then-size-ne-SHELF : goal.returns-then-size-ne-SHELF
returns-then-size-ne-SHELF c = start_other_size _ _ c.if-party-ge-PARTIES.false c.if-size-ne-SHELF.true

pub returns : goal.returns
returns c = start_found _ _ c.if-party-ge-PARTIES.false c.if-size-ne-SHELF.false
