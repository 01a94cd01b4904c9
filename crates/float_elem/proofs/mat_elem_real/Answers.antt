-- `float_elem::mat_elem_real` meets its contract: one part of the complex answer with the same list for both.
use mathlib.Core.Path.{ap, ◌∙◌}
use Rattle.modes.proofs.Refusals.{handed_on}
use Rattle.float_elem.specs.Answers.{told_by, real_values}
use Rattle.float_elem.proofs.Answering.{one_of_two}
use Rattle.float_elem.proofs.mat_elem_real.Goals as goal

pub returns-in_err-z : goal.returns-in_err-z
returns-in_err-z c =
    let a = c.args in
    ap (told_by real_values) (handed_on _ _ c.from_residual.ensures.0 c.from_residual.ensures.1)
    ∙ one_of_two a.m a.cre.now a.ann.now a.coeff.now a.bra a.ket _ c.in_err-z.ensures

pub returns : goal.returns
returns c =
    let a = c.args in
    one_of_two a.m a.cre.now a.ann.now a.coeff.now a.bra a.ket _ c.in_ok-z.ensures
