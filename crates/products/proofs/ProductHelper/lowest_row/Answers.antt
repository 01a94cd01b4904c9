-- `products::ProductHelper::lowest_row` meets its contract: the modes that its ladders pass give the row's sign.
use mathlib.Core.Path.{◌≡◌, sym, ap₂, ◌∙◌}
use lib.Bits.{or_zero_r}
use mir.Facts.{to_z-of_z}
use mir.Syntax.{w64}
use mir.Val.{SFits, to_z, of_z}
use Rattle.lent.proofs.RowLaws.{term_of}
use Rattle.products.specs.Operators.{signed}
use Rattle.products.specs.Product.{minus_at}
use Rattle.products.proofs.Signs.{abs_signed}
use Rattle.products.proofs.HelperWords.{lowest_sign}
use Rattle.products.proofs.ProductHelper.lowest_row.Goals as goal

pub returns : goal.returns
returns c =
    let one = c.odd_before_each_set_bit in
    let two = c.odd_before_each_set_bit-2 in
    let three = c.odd_before_each_set_bit-3 in
    let four = c.odd_before_each_set_bit-4 in
    let small : SFits w64 c.signed_coeff-signed.result = record { sfits = c.signed_coeff-signed.type_inv } in
    let sign = lowest_sign c.args.self.l_cre c.args.self.l_ann c.args.self.r_cre c.args.self.r_ann
    one.result two.result three.result four.result one.ensures two.ensures three.ensures four.ensures in
    let same : to_z w64 (of_z w64 c.signed_coeff-signed.result) ≡ signed
    (minus_at c.args.self.l_cre c.args.self.l_ann c.args.self.r_cre c.args.self.r_ann 0) c.args.coeff =
    to_z-of_z small ∙ c.signed_coeff-signed.ensures ∙ ap₂ signed (c.sign_of_bits.ensures ∙ sign) (to_z-of_z c.ranges.coeff) in
    (term_of (sym (or_zero_r _)) (sym (or_zero_r _)) same, rw (same, abs_signed) c.requires)
