-- `decimals::put_decimal` meets its contract: the higher digits, and the last after them.
use native.Mathlib.Omega.{arith}
use Rattle.decimals.proofs.Decimals.{digit_stored, digits_stored, length_digit, length_more}
use Rattle.decimals.proofs.+put_decimal.Goals as goal

pub put_digit-requires : goal.put_digit-requires
put_digit-requires t c =
    (omega (arith, c.requires, length_digit c.args.n c.if-n-lt10.true), c.if-n-lt10.true)

pub returns-then-n-lt10 : goal.returns-then-n-lt10
returns-then-n-lt10 t c =
    digit_stored c.args.s.now c.args.at c.args.n _ _ c.if-n-lt10.true c.put_digit.ensures

pub put_decimal-last-requires : goal.put_decimal-last-requires
put_decimal-last-requires t c =
    (omega (arith, c.decreases, c.if-n-lt10.false), omega (arith, c.requires, length_more c.args.n c.if-n-lt10.false))

pub put_digit-requires-2 : goal.put_digit-requires-2
put_digit-requires-2 t c =
    let first = c.put_decimal-last in
    (omega (arith, c.requires, first.ensures.ends, first.auto.s, length_more c.args.n c.if-n-lt10.false), omega arith)

pub returns : goal.returns
returns t c =
    digits_stored c.args.s.now c.args.at c.args.n _ _ c.if-n-lt10.false (omega (arith, c.requires)) _ _ c.put_decimal-last.ensures
    c.put_digit-2.ensures
