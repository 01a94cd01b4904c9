-- `mat_elem::repeat_refusal` meets its contract. The invariant: no word so far is refused.
use mathlib.Core.Path.{sym, ◌∙◌}
use Rattle.modes.proofs.FirstRefusals.{first_starts, first_goes, first_stays}
use Rattle.mat_elem.proofs.repeat_refusal.Goals as goal

pub loop-i-init : goal.loop-i-init
loop-i-init c = first_starts _

pub returns-then-stands_earlier : goal.returns-then-stands_earlier
returns-then-stands_earlier c =
    let again = sym c.stands_earlier.ensures ∙ c.if-stands_earlier.true in
    first_stays _ _ c.loop-i.invariant _ (rw again) _ c.loop-i-test.true

pub loop-i-preserved : goal.loop-i-preserved
loop-i-preserved c =
    let new = sym c.stands_earlier.ensures ∙ c.if-stands_earlier.false in
    first_goes _ _ c.loop-i.invariant (rw new)
