-- `branches::of_all` meets its contract: what is counted, with what is left, makes the whole.
use Prim.Native.Nat.{◌+◌}
use native.Mathlib.Omega.{arith}
use lib.ListN.{drop_of_length-le}
use Rattle.modes.specs.declared.Term.{Term}
use Rattle.modes.proofs.Sums.{by_front, by_nothing}
use Rattle.pairs.specs.Products.{branches_with}
use Rattle.branches.proofs.Ceiling.{counted, all_counted}
use Rattle.branches.proofs.of_all.Goals as goal

pub loop-i-preserved : goal.loop-i-preserved
loop-i-preserved c =
    let s = c.args in
    let v = c.loop-i in
    let next = by_front ◌+◌ 0 (λ (t : Term). branches_with t s.b.now) c.get-t.ensures in
    counted _ _ v.invariant next c.of_term.ensures c.more-so_far.ensures

pub returns : goal.returns
returns c =
    let s = c.args in
    let v = c.loop-i in
    all_counted v.invariant (by_nothing ◌+◌ 0 (λ (t : Term). branches_with t s.b.now) (drop_of_length-le s.a.now {i = v.i} (omega arith)))
