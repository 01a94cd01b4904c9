-- `adjoint::write_adjoint` meets its contract: the terms, their sort, and what finishes their record.
use mathlib.Core.Path.{refl}
use native.Mathlib.Omega.{arith}
use Rattle.record.proofs.Reading.{length_terms}
use Rattle.adjoint.proofs.Terms.{negatable}
use Rattle.adjoint.proofs.Sorting.{sorted_terms, sorted_adjoint}
use Rattle.adjoint.proofs.write_adjoint.Goals as goal

pub put_adjoint_terms-requires : goal.put_adjoint_terms-requires
put_adjoint_terms-requires c = (c.requires.0, negatable c.args.m _ c.requires.1)

pub finish-requires : goal.finish-requires
finish-requires c =
    (omega (arith, c.put_adjoint_terms.auto.out, c.sort.auto.s), omega (arith, c.requires.1.few))

pub returns : goal.returns
returns c =
    let sorted = sorted_terms _ _ _ (rw c.column_places.ensures at c.sort.ensures) in
    let arranged = rw (c.len-n.ensures, c.put_adjoint_terms.ensures) at sorted in
    let terms = sorted_adjoint c.args.m _ _ _ refl (length_terms _ _) c.requires.1 arranged in
    rw (c.sort.auto.s, c.put_adjoint_terms.auto.out, c.len-n.ensures, terms) at c.finish.ensures
