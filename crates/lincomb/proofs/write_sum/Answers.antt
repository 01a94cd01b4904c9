-- `lincomb::write_sum` meets its contract. The invariant: the terms so far stand in their places, and the rest is to come.
use borrow.Author.Rules.{rules}
use native.Mathlib.Omega.{arith}
use Rattle.integers.proofs.SignedNumbers.{zero_bits, nonzero_bits}
use Rattle.lincomb.proofs.Stepping.{spent}
use Rattle.lincomb.proofs.Writing.{writing_ends, leaves_out, has_place, writes}
use Rattle.lincomb.proofs.write_sum.Goals as goal

pub put_term-requires : goal.put_term-requires
put_term-requires c =
    let nonzero = nonzero_bits c.next-s.result.term.coeff c.if-t-ne0.true in
    let p = c.requires.fits in
    let v = c.loop-i.invariant in
    (omega (arith, p.1), has_place _ _ _ p.0 _ _ v.2 _ _ c.next-s.ensures.front nonzero)

pub loop-i-preserved-then-t-ne0 : goal.loop-i-preserved-then-t-ne0
loop-i-preserved-then-t-ne0 c =
    let nonzero = nonzero_bits c.next-s.result.term.coeff c.if-t-ne0.true in
    let p = c.requires.fits in
    let v = c.loop-i.invariant in
    let s = c.next-s.ensures in (
      s.left_in,
      s.right_in,
      writes _ _ _ p.0 _ _ v.2 _ _ s.front nonzero _ c.put_term.ensures,
    )

pub loop-i-preserved : goal.loop-i-preserved
loop-i-preserved c =
    let p = c.requires.fits in
    let v = c.loop-i.invariant in
    let s = c.next-s.ensures in
    let zero = zero_bits c.next-s.result.term.coeff (search rules) c.if-t-ne0.false in
    (s.left_in, s.right_in, leaves_out _ _ _ p.0 _ _ v.2 _ _ s.front zero)

pub returns : goal.returns
returns c =
    let v = c.loop-i.invariant in
    let done = spent c.args.sign.0 c.args.a.now c.loop-i.i c.args.b.now c.loop-i.j (omega arith) (omega arith) in
    rw (c.loop-i.auto.out, writing_ends _ _ _ c.requires.fits.0 _ _ v.2 done) at c.finish.ensures
