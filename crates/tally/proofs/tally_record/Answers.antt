-- `tally::tally_record` meets its contract.
use Rattle.std.proofs.Common.{sym, ◌∙◌}
use Rattle.tally.proofs.Tallying.{header_found}
use Rattle.tally.proofs.tally_record.Goals as goal

pub returns-then-not-laid_out : goal.returns-then-not-laid_out
returns-then-not-laid_out c =
    header_found _ _ c.check.ensures (sym c.laid_out.ensures ∙ c.if-not-laid_out.true) _ _
