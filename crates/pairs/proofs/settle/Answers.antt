-- `pairs::settle` meets its contract: the last row and the row in hand go, or the row in hand is stored.
use Rattle.pairs.proofs.Standing.{settled_kept}
use Rattle.pairs.proofs.settle.Goals as goal

pub returns : goal.returns
returns c =
    settled_kept c.args.row c.args.work.now c.args.s c.requires.0 c.requires.1 _ c.put_row.ensures
