-- `products::signed_coeff` meets its contract.
use mathlib.Core.Path.{sym, ap, ◌∙◌}
use mathlib.Core.Bool.{Bool}
use lib.IntN.{neg_ℤ}
use mir.Facts.{to_z-of_z}
use mir.Syntax.{w64}
use mir.Val.{SFits}
use Rattle.products.specs.Operators.{signed}
use Rattle.products.proofs.signed_coeff.Goals as goal

pub returns-then-sign : goal.returns-then-sign
returns-then-sign c =
    let small : SFits w64 c.negated.result = record { sfits = c.negated.type_inv } in
    to_z-of_z small ∙ c.negated.ensures ∙ ap neg_ℤ (to_z-of_z c.ranges.coeff) ∙ sym
    (ap (λ (b : Bool). signed b c.args.coeff) c.if-sign.true)

pub returns-else-sign : goal.returns-else-sign
returns-else-sign c = to_z-of_z c.ranges.coeff ∙ sym (ap (λ (b : Bool). signed b c.args.coeff) c.if-sign.false)
