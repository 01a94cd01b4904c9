-- `lincomb::count_terms` meets its contract. The invariant: what is counted, with what is left, makes the whole.
use native.Mathlib.Omega.{arith}
use Rattle.lincomb.proofs.Stepping.{spent}
use Rattle.lincomb.proofs.Tallying.{light_together, tally_goes, tally_light, tally_few, tally_ends}
use Rattle.lincomb.proofs.count_terms.Goals as goal

pub overflow_add-n : goal.overflow_add-n
overflow_add-n c =
    let light = light_together c.args.sign.0 _ _ c.requires.0 c.requires.1 in
    omega (arith, light, tally_few _ _ _ _ c.loop-i.invariant.2, c.kept-n.ensures.1)

pub overflow_add-w : goal.overflow_add-w
overflow_add-w c =
    let light = light_together c.args.sign.0 _ _ c.requires.0 c.requires.1 in
    omega (arith, light, tally_light _ _ _ _ _ c.loop-i.invariant.2 _ c.next-s.ensures.front, c.size-k.ensures.0)

pub loop-i-preserved : goal.loop-i-preserved
loop-i-preserved c =
    let s = c.next-s.ensures in
    (s.left_in, s.right_in, tally_goes _ _ _ _ _ c.loop-i.invariant.2 _ s.front _ _ c.size-k.ensures.0 c.kept-n.ensures.0)

pub returns : goal.returns
returns c =
    let done = spent c.args.sign.0 c.args.a.now c.loop-i.i c.args.b.now c.loop-i.j (omega arith) (omega arith) in
    tally_ends _ _ _ _ c.loop-i.invariant.2 done
