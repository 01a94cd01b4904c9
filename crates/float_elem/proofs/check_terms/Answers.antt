-- `float_elem::check_terms` meets its contract: no term so far is refused.
use mathlib.Core.Path.{sym, ◌∙◌}
use Rattle.modes.proofs.Refusals.{handed_on}
use Rattle.modes.proofs.FirstRefusals.{first_starts, first_goes, first_stays}
use Rattle.float_elem.proofs.check_terms.Goals as goal

pub loop-i-init : goal.loop-i-init
loop-i-init c = first_starts _

pub returns-in_err-term_refusal : goal.returns-in_err-term_refusal
returns-in_err-term_refusal c =
    handed_on _ _ c.from_residual.ensures.0 c.from_residual.ensures.1
    ∙ first_stays _ _ c.loop-i.invariant _ c.in_err-term_refusal.ensures _ c.loop-i-test.true

pub loop-i-preserved : goal.loop-i-preserved
loop-i-preserved c = first_goes _ _ c.loop-i.invariant (sym c.in_ok-term_refusal.ensures)
