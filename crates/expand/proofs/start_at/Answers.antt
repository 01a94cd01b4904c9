-- `expand::start_at` meets its contract: the coefficient read is the line's, and fits with its sign.
use Rattle.expand.proofs.Fields.{start_is}
use Rattle.expand.proofs.start_at.Goals as goal

pub returns : goal.returns
returns c =
    start_is _ c.requires.1 _ c.coefficient_of-c.ensures _ (record { sfits = c.signed_coeff-coeff.type_inv }) c.signed_coeff-coeff.ensures
