-- `adjoint::adjoint` meets its contract: the record's refusal, no room, or the adjoint's record.
use mathlib.Core.Path.{subst}
use native.Mathlib.Omega.{arith}
use lib.ListN.{length}
use Rattle.std.specs.Prelude.{Ok}
use Rattle.lent.specs.Outputs.{Output, Gives}
use Rattle.lent.proofs.Outputs.{refused_gives}
use Rattle.record.proofs.Accepted.{accepted}
use Rattle.record.proofs.Reading.{length_terms}
use Rattle.adjoint.proofs.Adjointed.{adjointed_refused, canonical, few, adjointed_short, adjointed_filled}
use Rattle.adjoint.proofs.adjoint.Goals as goal

pub returns-in-Err : goal.returns-in-Err
returns-in-Err c =
    let refuse = c.refuse in
    subst (λ (o : Output). Gives o refuse.result refuse.new.out)
    (adjointed_refused (length c.args.out.now) c.args.a.now _ c.in-Err.ensures) (refused_gives _ refuse.ensures)

pub length_of-requires : goal.length_of-requires
length_of-requires c = omega (arith, few 0 _ _ (accepted 1 _ _ c.in-Ok.ensures))

pub returns-then-out-length_of : goal.returns-then-out-length_of
returns-then-out-length_of c =
    let refuse = c.refuse-then-out-length_of in
    let k = accepted 1 c.args.a.now _ c.in-Ok.ensures in
    subst (λ (o : Output). Gives o refuse.result refuse.new.out)
    (adjointed_short (length c.args.out.now) c.args.a.now _ k (omega (arith, c.length_of.ensures))) (refused_gives _ refuse.ensures)

pub of-terms-requires : goal.of-terms-requires
of-terms-requires c = (accepted 1 _ _ c.in-Ok.ensures).held.size

pub write_adjoint-requires : goal.write_adjoint-requires
write_adjoint-requires c =
    let k = accepted 1 c.args.a.now _ c.in-Ok.ensures in
    rw c.of-terms.ensures (rw (length_terms _ _) (omega (arith, c.length_of.ensures)), canonical 0 c.args.a.now _ k)

pub returns : goal.returns
returns c =
    let written = c.write_adjoint in
    let k = accepted 1 c.args.a.now _ c.in-Ok.ensures in
    subst (λ (o : Output). Gives o (Ok written.result) written.new.out)
    (adjointed_filled (length c.args.out.now) c.args.a.now _ k (omega (arith, c.length_of.ensures))) (rw c.of-terms.ensures at written.ensures)
