-- `text::early_refusal` meets its contract.
use mathlib.Core.Path.{◌∙◌}
use Rattle.modes.proofs.Refusals.{handed_on}
use Rattle.text.proofs.Refusing.{modes_refused, text_refused, sums_refused}
use Rattle.text.proofs.early_refusal.Goals as goal

pub returns-in_err-modes_refusal : goal.returns-in_err-modes_refusal
returns-in_err-modes_refusal c =
    handed_on _ _ c.from_residual.ensures.0 c.from_residual.ensures.1
    ∙ modes_refused c.args.m c.args.work c.args.text.now _ c.in_err-modes_refusal.ensures

pub returns-in_err-sums : goal.returns-in_err-sums
returns-in_err-sums c =
    handed_on _ _ c.from_residual-in_err-sums.ensures.0 c.from_residual-in_err-sums.ensures.1
    ∙ text_refused c.args.m c.args.work c.args.text.now _ c.in_ok-modes_refusal.ensures _ c.in_err-sums.ensures

pub returns : goal.returns
returns c =
    c.sums_refusal.ensures
    ∙ sums_refused c.args.m c.args.work c.args.text.now _ c.in_ok-modes_refusal.ensures _ c.in_ok-sums.ensures c.requires
