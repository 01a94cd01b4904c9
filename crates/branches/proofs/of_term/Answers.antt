-- `branches::of_term` meets its contract: what is counted, with what is left, makes the whole.
use Prim.Native.Nat.{◌+◌}
use native.Mathlib.Omega.{arith}
use lib.ListN.{drop_of_length-le}
use Rattle.modes.proofs.Sums.{by_front, by_nothing}
use Rattle.pairs.specs.Products.{branches_of}
use Rattle.branches.proofs.Ceiling.{counted, all_counted}
use Rattle.branches.proofs.of_term.Goals as goal

pub loop-j-preserved : goal.loop-j-preserved
loop-j-preserved c =
    let v = c.loop-j in
    let next = by_front ◌+◌ 0 (branches_of c.args.t) c.get-u.ensures in
    counted _ _ v.invariant next c.of_pair.ensures c.more-so_far.ensures

pub returns : goal.returns
returns c =
    let s = c.args in
    let v = c.loop-j in
    all_counted v.invariant (by_nothing ◌+◌ 0 (branches_of s.t) (drop_of_length-le s.b.now {i = v.j} (omega arith)))
