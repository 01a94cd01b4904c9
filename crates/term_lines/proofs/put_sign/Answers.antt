-- `term_lines::put_sign` meets its contract.
use mathlib.Core.Bool.{true, false}
use Rattle.integers.proofs.SignedNumbers.{tested}
use Rattle.term_lines.proofs.Lines.{minus_stored, no_minus_stored}
use Rattle.term_lines.proofs.put_sign.Goals as goal

pub returns-then-coeff-lt0 : goal.returns-then-coeff-lt0
returns-then-coeff-lt0 c =
    minus_stored c.args.s.now c.args.coeff c.requires (tested c.args.coeff true c.ranges.coeff c.if-coeff-lt0.true)

pub returns : goal.returns
returns c =
    no_minus_stored c.args.s.now c.args.coeff (tested c.args.coeff false c.ranges.coeff c.if-coeff-lt0.false)
