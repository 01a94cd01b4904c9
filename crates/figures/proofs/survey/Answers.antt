-- `figures::survey` meets its contract.
use mathlib.Core.Path.{◌∙◌}
use Rattle.modes.proofs.Refusals.{handed_on}
use Rattle.record.proofs.Accepted.{accepted}
use Rattle.figures.proofs.Surveys.{survey_refused, survey_accepted}
use Rattle.figures.proofs.survey.Goals as goal

pub returns-in_err-c : goal.returns-in_err-c
returns-in_err-c c = handed_on _ _ c.from_residual.ensures.0 c.from_residual.ensures.1 ∙ survey_refused _ _ c.in_err-c.ensures

pub of-terms-requires : goal.of-terms-requires
of-terms-requires c = (accepted 1 _ _ c.in_ok-c.ensures).held.size

pub returns : goal.returns
returns c = survey_accepted _ _ _ (accepted 1 _ _ c.in_ok-c.ensures) (rw c.of-terms.ensures at c.survey_terms.ensures)
