-- `tally::tally_terms` meets its contract.
use Rattle.std.proofs.Common.{sym, ◌∙◌, arith}
use Rattle.modes.proofs.Refusals.{handed_on}
use Rattle.record.proofs.Header.{laid}
use Rattle.record.proofs.Reading.{length_terms}
use Rattle.tally.proofs.Ends.{ended_early, ended_whole, stopped_is, light_is, heavy_is}
use Rattle.tally.proofs.Tallying.{refused_found, all_found}
use Rattle.tally.proofs.tally_terms.Goals as goal

pub of-terms-requires : goal.of-terms-requires
of-terms-requires c = omega (arith, (laid _ c.requires.0).size, c.requires.2)

pub walk-reached-requires : goal.walk-reached-requires
walk-reached-requires c =
    let pre = c.requires in
    (omega (arith, (laid _ pre.0).most, pre.1), pre.3, pre.4)

pub returns-in_err-judge_end : goal.returns-in_err-judge_end
returns-in_err-judge_end c =
    let walked = rw c.of-terms.ensures at c.walk-reached.ensures in
    let stopped = stopped_is _ _ _ c.requires.0 c.requires.1 c.requires.2 _ _ walked.seeing _ (ended_early _ _ _ _ (rw c.of-terms.ensures at c.in_err-judge_end.ensures)) in
    rw (handed_on _ _ c.from_residual.ensures.0 c.from_residual.ensures.1) (refused_found _ _ stopped _ _)

pub returns-then-not-is_light : goal.returns-then-not-is_light
returns-then-not-is_light c =
    let walked = rw c.of-terms.ensures at c.walk-reached.ensures in
    let judged = rw c.of-terms.ensures at c.in_ok-judge_end.ensures in
    let whole = rw (length_terms _ _) at (ended_whole _ _ _ (λ r h. walked.ended h r) _ judged) in
    let heavy = sym c.is_light.ensures ∙ c.if-not-is_light.true in
    refused_found _ _ (heavy_is _ _ _ c.requires.0 c.requires.1 c.requires.2 _ _ walked.seeing whole heavy) _ _

pub returns : goal.returns
returns c =
    let walked = rw c.of-terms.ensures at c.walk-reached.ensures in
    let judged = rw c.of-terms.ensures at c.in_ok-judge_end.ensures in
    let whole = rw (length_terms _ _) at (ended_whole _ _ _ (λ r h. walked.ended h r) _ judged) in
    let light = sym c.is_light.ensures ∙ c.if-not-is_light.false in
    let is = light_is _ _ _ c.requires.0 c.requires.1 c.requires.2 _ _ walked.seeing whole light in
    all_found _ _ is _ c.requires.2 _ _ _ walked.tallying whole
