-- `decimals::put_field` meets its contract: the digits, and the byte after them.
use native.Mathlib.Omega.{arith}
use Rattle.decimals.proofs.Decimals.{field_stored, length_field}
use Rattle.decimals.proofs.put_field.Goals as goal

pub returns : goal.returns
returns c =
    let d = c.put_decimal-last in
    let room = length_field c.args.n c.args.end in
    field_stored c.args.n c.args.end (omega (arith, c.requires)) d.ensures (omega (arith, c.requires, room, d.ensures.ends, d.auto.s))
