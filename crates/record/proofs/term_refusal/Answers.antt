-- `record::term_refusal` meets its contract: 2 before 3 before 4.
use mathlib.Core.Path.{sym, ◌∙◌}
use Rattle.record.proofs.Refusals.{outside, not_above, zero_coefficient, right_term}
use Rattle.record.proofs.term_refusal.Goals as goal

pub returns-then-not-is_inside : goal.returns-then-not-is_inside
returns-then-not-is_inside c = outside _ _ _ _ _ (sym c.is_inside.ensures ∙ c.if-not-is_inside.true)

pub returns-then-not-up : goal.returns-then-not-up
returns-then-not-up c =
    not_above _ _ _ _ _ (sym c.is_inside.ensures ∙ c.if-not-is_inside.false) c.if-not-up.true

pub returns-then-size-eq0 : goal.returns-then-size-eq0
returns-then-size-eq0 c =
    zero_coefficient _ _ _ _ _ (sym c.is_inside.ensures ∙ c.if-not-is_inside.false) c.if-not-up.false
    (sym c.size.ensures.0 ∙ c.if-size-eq0.true)

pub returns : goal.returns
returns c =
    right_term _ _ _ _ _ (sym c.is_inside.ensures ∙ c.if-not-is_inside.false) c.if-not-up.false
    (λ e. c.if-size-eq0.false (c.size.ensures.0 ∙ e))
