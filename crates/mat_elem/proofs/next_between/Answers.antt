-- `mat_elem::next_between` meets its contract: the invariant is that the terms passed over are not between bra and ket, and add nothing.
use native.Mathlib.Omega.{arith}
use mathlib.Core.Path.{◌≡◌}
use lib.ListN.{drop_of_length-le}
use Rattle.mat_elem.proofs.Summing.{Passing, passing_goes, passing_stops, passing_ends}
use Rattle.mat_elem.proofs.next_between.Goals as goal

pub returns-then-t-bra : goal.returns-then-t-bra
returns-then-t-bra c =
    let l = c.loop-i in
    let a = c.args in
    let t = c.get-t in
    (passing_stops a.bra a.ket a.terms.now a.from l.i l.invariant t.result t.ensures c.if-t-bra.true, omega arith, l.invariant.same)

pub loop-i-preserved : goal.loop-i-preserved
loop-i-preserved c =
    let l = c.loop-i in
    let a = c.args in
    let t = c.get-t in
    passing_goes a.bra a.ket a.terms.now a.from l.i l.invariant t.result t.ensures (omega arith) (omega arith) c.if-t-bra.false

pub returns : goal.returns
returns c =
    let a = c.args in
    let n = c.len-n.result in
    let end : c.loop-i.i ≡ n = omega arith in
    let all : Passing a.bra a.ket a.terms.now a.from n = rw end at c.loop-i.invariant in
    (passing_ends a.bra a.ket a.terms.now a.from n all (drop_of_length-le a.terms.now {i = n} (omega arith)), omega arith, all.same)
