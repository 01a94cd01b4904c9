-- `float_elem::mat_elem_complex` meets its contract: refused by the lists, a term, the bra or the ket, or decided by the sums.
use mathlib.Core.Path.{ap, ◌∙◌}
use mathlib.Core.List.{[], ◌∷◌}
use Rattle.modes.proofs.Refusals.{handed_on}
use Rattle.float_elem.specs.Answers.{told_by, complex_values}
use Rattle.float_elem.proofs.Checking.{lengths}
use Rattle.float_elem.proofs.Answering.{lists_refused, term_refused, word_refused, sums_decide}
use Rattle.float_elem.proofs.mat_elem_complex.Goals as goal

pub returns-then-not-is_listed : goal.returns-then-not-is_listed
returns-then-not-is_listed c =
    let a = c.args in
    lists_refused a.m a.cre.now a.ann.now (a.re.now ∷ a.im.now ∷ []) a.bra a.ket _ c.is_listed.ensures c.if-not-is_listed.true

pub check_terms-requires : goal.check_terms-requires
check_terms-requires c = lengths _ _ _ _ _ _ c.is_listed.ensures c.if-not-is_listed.false

pub returns-in_err-check_terms : goal.returns-in_err-check_terms
returns-in_err-check_terms c =
    let a = c.args in
    ap (told_by complex_values) (handed_on _ _ c.from_residual.ensures.0 c.from_residual.ensures.1)
    ∙ term_refused a.m a.cre.now a.ann.now (a.re.now ∷ a.im.now ∷ []) a.bra a.ket _ c.is_listed.ensures
    c.if-not-is_listed.false _ c.in_err-check_terms.ensures

pub returns-in_err-words_refusal : goal.returns-in_err-words_refusal
returns-in_err-words_refusal c =
    let a = c.args in
    ap (told_by complex_values) (handed_on _ _ c.from_residual-in_err-words_refusal.ensures.0 c.from_residual-in_err-words_refusal.ensures.1)
    ∙ word_refused a.m a.cre.now a.ann.now (a.re.now ∷ a.im.now ∷ []) a.bra a.ket _ c.is_listed.ensures
    c.if-not-is_listed.false c.in_ok-check_terms.ensures _ c.in_err-words_refusal.ensures

pub sum_terms-requires : goal.sum_terms-requires
sum_terms-requires c =
    lengths _ _ _ _ _ _ c.is_listed.ensures c.if-not-is_listed.false

pub returns : goal.returns
returns c =
    let a = c.args in
    sums_decide a.m a.cre.now a.ann.now (a.re.now ∷ a.im.now ∷ []) a.bra a.ket _ c.is_listed.ensures
    c.if-not-is_listed.false c.in_ok-check_terms.ensures c.in_ok-words_refusal.ensures _ c.sum_terms.ensures
