-- `products::apply_op_ket_u64` meets its contract: its two tests, the modes that they find and its sign are those of the rule.
use native.Mathlib.Omega.{arith}
use lib.Bits.{and_le_r}
use Rattle.products.proofs.Applied.{zero_missing, zero_occupied, applied_is}
use Rattle.products.proofs.apply_op_ket_u64.Goals as goal

pub overflow_sub-ann : goal.overflow_sub-ann
overflow_sub-ann c = omega (arith, and_le_r c.args.ket c.args.ann)

pub returns-then-held-ann : goal.returns-then-held-ann
returns-then-held-ann c =
    zero_missing c.args.cre c.args.ann c.args.ket c.ranges.cre.fits c.ranges.ann.fits c.if-held-ann.true
    c.lowest_mode.result c.lowest_mode.ensures

pub returns-then-cre-ket_after_ann-ne0 : goal.returns-then-cre-ket_after_ann-ne0
returns-then-cre-ket_after_ann-ne0 c =
    zero_occupied c.args.cre c.args.ann c.args.ket c.ranges.cre.fits c.ranges.ann.fits c.if-held-ann.false
    c.if-cre-ket_after_ann-ne0.true c.lowest_mode-then-cre-ket_after_ann-ne0.result c.lowest_mode-then-cre-ket_after_ann-ne0.ensures

pub returns : goal.returns
returns c =
    let one = c.odd_before_each_set_bit in
    let two = c.odd_before_each_set_bit-2 in
    applied_is c.args.cre c.args.ann c.args.ket c.ranges.cre.fits c.ranges.ann.fits
    c.if-held-ann.false c.if-cre-ket_after_ann-ne0.false one.result two.result c.sign_of_bits.result
    one.ensures two.ensures c.sign_of_bits.ensures
