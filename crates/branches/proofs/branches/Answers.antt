-- `branches::branches` meets its contract: refused with the pair, too many, or the two counts.
use mathlib.Core.Path.{◌∙◌}
use Rattle.modes.proofs.Refusals.{handed_on}
use Rattle.branches.proofs.Telling.{pair_refused, first_there, second_there, too_many, told}
use Rattle.branches.proofs.branches.Goals as goal

pub returns-in_err-p : goal.returns-in_err-p
returns-in_err-p c =
    handed_on _ _ c.from_residual.ensures.0 c.from_residual.ensures.1 ∙ pair_refused _ _ _ c.in_err-p.ensures

pub of-left-requires : goal.of-left-requires
of-left-requires c = first_there _ _ _ c.in_ok-p.ensures

pub of-right-requires : goal.of-right-requires
of-right-requires c = second_there _ _ _ c.in_ok-p.ensures

pub returns-then-forward-backward-gt-MOST : goal.returns-then-forward-backward-gt-MOST
returns-then-forward-backward-gt-MOST c =
    too_many _ _ _ c.in_ok-p.ensures _ _ (rw (c.of-left.ensures, c.of-right.ensures) at c.of_all-forward.ensures)
    (rw (c.of-left.ensures, c.of-right.ensures) at c.of_all-backward.ensures) c.if-forward-backward-gt-MOST.true

pub returns : goal.returns
returns c =
    told _ _ _ c.in_ok-p.ensures _ _ (rw (c.of-left.ensures, c.of-right.ensures) at c.of_all-forward.ensures)
    (rw (c.of-left.ensures, c.of-right.ensures) at c.of_all-backward.ensures) c.if-forward-backward-gt-MOST.false
