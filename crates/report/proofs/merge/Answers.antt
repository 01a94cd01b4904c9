-- `report::merge` meets its contract. The invariant: the ranks so far are counted, and the others are as they were.
use Rattle.report.proofs.Merging.{share_inside, share_within}
use Rattle.report.proofs.merge.Goals as goal

pub grow_share-requires : goal.grow_share-requires
grow_share-requires c =
    let g = c.loop-r.invariant in
    let a = c.requires in
    let h = c.loop-r-test.true in
    (share_inside _ _ _ _ _ g a h, share_within _ _ _ _ _ g a h, a.figures.few _ h, a.figures.light _ h, a.figures.empty _ h)
