-- `adjoint::put_adjoint_terms` meets its contract. The invariant: the first `i` adjoint terms stand there.
use mathlib.Core.Path.{sym}
use Rattle.adjoint.proofs.Writing.{filling_goes, filling_ends, every_drop}
use Rattle.adjoint.proofs.put_adjoint_terms.Goals as goal

pub adjoint_term-u-requires : goal.adjoint_term-u-requires
adjoint_term-u-requires c = every_drop _ _ _ c.loop-i.i c.requires.1 c.get-t.ensures

pub loop-i-preserved : goal.loop-i-preserved
loop-i-preserved c =
    filling_goes _ _ _ _ c.loop-i.invariant _ _ _ _
    c.loop-i-test.true c.get-t.ensures c.adjoint_term-u.ensures c.put_term.ensures

pub returns : goal.returns
returns c = rw (← c.len-n.ensures) (filling_ends _ _ _ _ c.loop-i.invariant (sym c.len-n.ensures) c.loop-i-test.false)
