-- `compare::compare` meets its contract: refused with the pair, or the pair of words that is named.
use mathlib.Core.Path.{ap, ◌∙◌}
use Rattle.modes.proofs.Refusals.{handed_on}
use Rattle.lincomb.proofs.Sums.{both_held, both_light}
use Rattle.compare.proofs.Comparing.{found, comparison_refused, comparison_found}
use Rattle.compare.proofs.compare.Goals as goal

pub returns-in_err-p : goal.returns-in_err-p
returns-in_err-p c =
    handed_on _ _ c.from_residual.ensures.0 c.from_residual.ensures.1 ∙ comparison_refused _ _ _ c.in_err-p.ensures

pub of-left-requires : goal.of-left-requires
of-left-requires c = (both_held _ _ _ c.in_ok-p.ensures).0

pub of-right-requires : goal.of-right-requires
of-right-requires c = (both_held _ _ _ c.in_ok-p.ensures).1

pub find-requires : goal.find-requires
find-requires c = both_light _ _ _ c.in_ok-p.ensures _ _ c.of-left.ensures c.of-right.ensures

pub returns : goal.returns
returns c = ap found c.find.ensures ∙ comparison_found _ _ _ c.in_ok-p.ensures _ _ c.of-left.ensures c.of-right.ensures
