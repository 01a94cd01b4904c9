-- `mat_elem::mat_ortho_projected` meets its contract: refused with the record or the basis, or filled.
use mathlib.Core.Path.{sym, ◌∙◌}
use Rattle.modes.proofs.Refusals.{handed_on}
use Rattle.mat_elem.proofs.Projecting.{basis_short, operator_refused, basis_refused, terms_held, projected}
use Rattle.mat_elem.proofs.mat_ortho_projected.Goals as goal

pub returns-in_err-c : goal.returns-in_err-c
returns-in_err-c c =
    handed_on _ _ c.from_residual.ensures.0 c.from_residual.ensures.1 ∙ operator_refused _ _ _ c.in_err-c.ensures

pub returns-in_err-basis_refusal : goal.returns-in_err-basis_refusal
returns-in_err-basis_refusal c =
    handed_on _ _ c.from_residual-in_err-basis_refusal.ensures.0 c.from_residual-in_err-basis_refusal.ensures.1
    ∙ basis_refused _ _ _ c.in_ok-c.ensures _ c.in_err-basis_refusal.ensures

pub of-terms-requires : goal.of-terms-requires
of-terms-requires c = (terms_held _ c.args.basis.now _ c.in_ok-c.ensures).size

pub project-requires : goal.project-requires
project-requires c =
    let short = basis_short _ c.args.basis.now (sym c.in_ok-basis_refusal.ensures) in
    (rw c.of-terms.ensures (terms_held _ c.args.basis.now _ c.in_ok-c.ensures).light, short)

pub returns : goal.returns
returns c = projected _ _ _ c.in_ok-c.ensures c.in_ok-basis_refusal.ensures _ (rw c.of-terms.ensures at c.project.ensures)
