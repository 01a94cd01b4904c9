-- `mat_elem::outside_refusal` meets its contract. The invariant: no word so far is refused.
use mathlib.Core.Path.{sym, ◌∙◌}
use Rattle.modes.proofs.Refusals.{handed_on}
use Rattle.modes.proofs.FirstRefusals.{first_starts, first_goes, first_stays}
use Rattle.mat_elem.proofs.outside_refusal.Goals as goal

pub loop-i-init : goal.loop-i-init
loop-i-init c = first_starts _

pub returns-in_err-word_refusal : goal.returns-in_err-word_refusal
returns-in_err-word_refusal c =
    handed_on _ _ c.from_residual.ensures.0 c.from_residual.ensures.1
    ∙ first_stays _ _ c.loop-i.invariant _ c.in_err-word_refusal.ensures _ c.loop-i-test.true

pub loop-i-preserved : goal.loop-i-preserved
loop-i-preserved c = first_goes _ _ c.loop-i.invariant (sym c.in_ok-word_refusal.ensures)
