-- `adjoint::has_adjoints` meets its contract. The invariant: the adjoints of the first `i` terms are among the terms.
use native.Mathlib.Omega.{arith}
use Rattle.modes.specs.Every.{none}
use Rattle.adjoint.proofs.Writing.{every_drop}
use Rattle.adjoint.proofs.Among.{among_goes, among_fails, among_ends}
use Rattle.adjoint.proofs.has_adjoints.Goals as goal

pub loop-i-init : goal.loop-i-init
loop-i-init c = none

pub adjoint_term-u-requires : goal.adjoint_term-u-requires
adjoint_term-u-requires c = every_drop _ _ _ c.loop-i.i c.requires.1 c.get-t.ensures

pub returns-then-not-has_term : goal.returns-then-not-has_term
returns-then-not-has_term c =
    among_fails _ _ c.loop-i.i _ _ _ c.get-t.ensures c.adjoint_term-u.ensures
    c.has_term.ensures c.if-not-has_term.true

pub loop-i-preserved : goal.loop-i-preserved
loop-i-preserved c =
    among_goes _ _ c.loop-i.i _ _ _ c.loop-i.invariant
    c.get-t.ensures c.adjoint_term-u.ensures c.has_term.ensures c.if-not-has_term.false

pub returns : goal.returns
returns c = among_ends _ c.loop-i.i (omega arith) c.loop-i.invariant
