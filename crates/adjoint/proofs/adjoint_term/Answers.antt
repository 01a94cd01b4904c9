-- `adjoint::adjoint_term` meets its contract.
use mathlib.Core.Path.{ap, ◌∙◌}
use mir.Facts.{to_z-of_z}
use mir.Syntax.{w64}
use mir.Val.{SFits}
use Rattle.integers.proofs.SignedNumbers.{abs_fits}
use Rattle.products.specs.Operators.{signed}
use Rattle.adjoint.proofs.Terms.{adjoint_made}
use Rattle.adjoint.proofs.adjoint_term.Goals as goal

pub returns : goal.returns
returns c =
    let small : SFits w64 c.signed_coeff-coeff.result = record { sfits = c.signed_coeff-coeff.type_inv } in
    adjoint_made c.args.t _ _ _ _ c.pairs_in.ensures.0
    c.pairs_in-2.ensures.0 c.from_exchanges-sign.ensures
    (to_z-of_z small ∙ c.signed_coeff-coeff.ensures
    ∙ ap (signed c.from_exchanges-sign.result.0) (to_z-of_z (abs_fits _ c.requires)))
