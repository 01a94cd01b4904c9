-- `mat_elem::element` meets its contract: refused with the record or the words, or found.
use mathlib.Core.Path.{◌∙◌}
use mir.Facts.{to_z-of_z}
use mir.Syntax.{w64}
use mir.Val.{SFits}
use Rattle.modes.proofs.Refusals.{handed_on}
use Rattle.mat_elem.proofs.Answering.{record_refused, words_refused, element_found, terms_held}
use Rattle.mat_elem.proofs.element.Goals as goal

pub returns-in_err-c : goal.returns-in_err-c
returns-in_err-c c =
    handed_on _ _ c.from_residual.ensures.0 c.from_residual.ensures.1 ∙ record_refused _ _ _ _ c.in_err-c.ensures

pub returns-in_err-words_refusal : goal.returns-in_err-words_refusal
returns-in_err-words_refusal c =
    handed_on _ _ c.from_residual-in_err-words_refusal.ensures.0 c.from_residual-in_err-words_refusal.ensures.1
    ∙ words_refused _ _ _ _ c.in_ok-c.ensures _ c.in_err-words_refusal.ensures

pub of-terms-requires : goal.of-terms-requires
of-terms-requires c = (terms_held _ c.args.bra c.args.ket _ c.in_ok-c.ensures).size

pub sum_parts-requires : goal.sum_parts-requires
sum_parts-requires c = rw c.of-terms.ensures (terms_held _ c.args.bra c.args.ket _ c.in_ok-c.ensures).light

pub returns : goal.returns
returns c =
    let small : SFits w64 c.sum_parts.result = record { sfits = c.sum_parts.type_inv } in
    element_found _ _ _ _ c.in_ok-c.ensures c.in_ok-words_refusal.ensures _ (to_z-of_z small ∙ (rw c.of-terms.ensures at c.sum_parts.ensures))
