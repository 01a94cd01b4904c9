-- `compare::find` meets its contract. The invariant: what is found, with what is left, names what the whole names.
use mathlib.Core.Bool.{true}
use native.Mathlib.Omega.{arith}
use Rattle.lincomb.proofs.Stepping.{spent}
use Rattle.compare.proofs.Finding.{finding_goes, finding_ends_some, finding_ends_none}
use Rattle.compare.proofs.find.Goals as goal

pub loop-i-preserved : goal.loop-i-preserved
loop-i-preserved c =
    let s = c.next-s.ensures in
    (s.left_in, s.right_in, finding_goes _ _ _ _ _ _ c.loop-i.invariant.2 s.front c.with_term-found.ensures)

pub returns-in-Some : goal.returns-in-Some
returns-in-Some c =
    let done = spent true c.args.a.now c.loop-i.i c.args.b.now c.loop-i.j (omega arith) (omega arith) in
    finding_ends_some _ _ done _ (rw c.in-Some.is at c.loop-i.invariant.2)

pub returns-in-None : goal.returns-in-None
returns-in-None c =
    let done = spent true c.args.a.now c.loop-i.i c.args.b.now c.loop-i.j (omega arith) (omega arith) in
    finding_ends_none _ _ done (rw c.in-None.is at c.loop-i.invariant.2)
