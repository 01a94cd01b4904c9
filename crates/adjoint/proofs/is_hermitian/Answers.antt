-- `adjoint::is_hermitian` meets its contract: the record's refusal, or whether every term has its partner.
use mathlib.Core.Path.{◌∙◌}
use Rattle.modes.proofs.Refusals.{handed_on}
use Rattle.record.proofs.Accepted.{accepted, readable}
use Rattle.adjoint.proofs.Terms.{negatable}
use Rattle.adjoint.proofs.Adjointed.{canonical}
use Rattle.adjoint.proofs.Hermitian.{hermitian_refused, hermitian_found}
use Rattle.adjoint.proofs.is_hermitian.Goals as goal

pub returns-in_err-c : goal.returns-in_err-c
returns-in_err-c c =
    handed_on _ _ c.from_residual.ensures.0 c.from_residual.ensures.1 ∙ hermitian_refused _ _ c.in_err-c.ensures

pub of-terms-requires : goal.of-terms-requires
of-terms-requires c = (accepted 1 _ _ c.in_ok-c.ensures).held.size

pub has_adjoints-requires : goal.has_adjoints-requires
has_adjoints-requires c =
    let k = accepted 1 _ _ c.in_ok-c.ensures in
    rw c.of-terms.ensures ((readable 1 _ _ k).1, negatable _ _ (canonical 0 _ _ k))

pub returns : goal.returns
returns c =
    hermitian_found _ _ (accepted 1 _ _ c.in_ok-c.ensures)
    (λ k. (c.type_inv.a k).fits) _ (rw c.of-terms.ensures at c.has_adjoints.ensures)
