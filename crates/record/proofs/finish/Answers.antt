-- `record::finish` meets its contract: the header, and zeros past the terms.
use Rattle.record.proofs.Columns.{finished}
use Rattle.record.proofs.finish.Goals as goal

pub returns : goal.returns
returns c =
    let wiped = rw c.length_of-len.ensures at c.wipe_from.ensures in
    rw c.length_of-len.ensures
    (finished c.args.out.now _ _ c.args.m c.args.n c.args.branches (λ k. (c.slice_known-1.given k).fits) c.requires.0 c.put_header.ensures wiped)
