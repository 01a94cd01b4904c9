-- `modes::words_refusal` meets its contract: the bra before the ket.
use mathlib.Core.Path.{◌∙◌}
use Rattle.modes.proofs.Refusals.{the_first, the_second, handed_on}
use Rattle.modes.proofs.words_refusal.Goals as goal

pub returns-in_err-word_refusal : goal.returns-in_err-word_refusal
returns-in_err-word_refusal c =
    handed_on _ _ c.from_residual.ensures.0 c.from_residual.ensures.1
    ∙ the_first _ _ _ c.in_err-word_refusal.ensures

pub returns : goal.returns
returns c = c.word_refusal-2.ensures ∙ the_second _ _ _ c.in_ok-word_refusal.ensures
