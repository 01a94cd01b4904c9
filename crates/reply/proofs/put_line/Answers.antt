-- `reply::put_line` meets its contract: the word, and three fields after it.
use native.Mathlib.Omega.{arith}
use Rattle.decimals.proofs.Decimals.{twenty_one}
use Rattle.reply.proofs.Lines.{line_stored}
use Rattle.reply.proofs.put_line.Goals as goal

pub put_field-first-requires : goal.put_field-first-requires
put_field-first-requires c =
    omega (arith, c.requires, c.copy.auto.s, twenty_one c.args.number 32 c.ranges.number.fits)

pub put_field-second-requires : goal.put_field-second-requires
put_field-second-requires c =
    let one = twenty_one c.args.number 32 c.ranges.number.fits in
    let two = twenty_one c.args.operand 32 c.ranges.operand.fits in
    omega (arith, c.requires, c.copy.auto.s, c.put_field-first.auto.s, c.put_field-first.ensures.ends, one, two)

pub put_field-requires : goal.put_field-requires
put_field-requires c =
    let one = twenty_one c.args.number 32 c.ranges.number.fits in
    let two = twenty_one c.args.operand 32 c.ranges.operand.fits in
    let three = twenty_one c.args.place 10 c.ranges.place.fits in
    omega (
      arith,
      c.requires,
      c.copy.auto.s,
      c.put_field-first.auto.s,
      c.put_field-first.ensures.ends,
      c.put_field-second.auto.s,
      c.put_field-second.ensures.ends,
      one,
      two,
      three,
    )

pub returns : goal.returns
returns c =
    line_stored c.args.number c.args.operand c.args.place c.args.s.now _ _ _ _ _ _ _ (omega (arith, c.requires)) (omega (arith, c.requires, c.copy.auto.s))
    c.copy.ensures c.put_field-first.ensures c.put_field-second.ensures c.put_field.ensures
