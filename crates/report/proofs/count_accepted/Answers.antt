-- `report::count_accepted` meets its contract.
use Rattle.report.proofs.Accepting.{ranks_ready, accepted_in}
use Rattle.report.proofs.count_accepted.Goals as goal

pub merge-requires : goal.merge-requires
merge-requires c =
    ranks_ready _ _ _ _ c.requires _ c.grow_share.ensures _

pub returns : goal.returns
returns c =
    accepted_in _ _ _ _ c.requires _ c.grow_share.ensures _ c.larger.ensures _ c.merge.ensures
