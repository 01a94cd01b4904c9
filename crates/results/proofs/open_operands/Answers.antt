-- `results::open_operands` meets its contract: the first record, the second, then 6.
use mathlib.Core.Path.{◌∙◌}
use Rattle.modes.proofs.Refusals.{handed_on}
use Rattle.results.proofs.Results.{first_refused, second_refused, other_modes, both_open}
use Rattle.results.proofs.open_operands.Goals as goal

pub returns-in_err-p : goal.returns-in_err-p
returns-in_err-p c =
    handed_on _ _ c.from_residual.ensures.0 c.from_residual.ensures.1 ∙ first_refused _ _ _ c.in_err-p.ensures

pub returns-in_err-q : goal.returns-in_err-q
returns-in_err-q c =
    handed_on _ _ c.from_residual-in_err-q.ensures.0 c.from_residual-in_err-q.ensures.1
    ∙ second_refused _ _ _ c.in_ok-p.ensures _ c.in_err-q.ensures

pub returns-then-p-q : goal.returns-then-p-q
returns-then-p-q c = other_modes _ _ _ c.in_ok-p.ensures _ c.in_ok-q.ensures c.if-p-q.true

pub returns : goal.returns
returns c = both_open _ _ _ c.in_ok-p.ensures _ c.in_ok-q.ensures c.if-p-q.false
