-- `record::check_terms` meets its contract. The invariant: what the terms so far leave of the refusal, and their weight.
use native.Mathlib.Omega.{arith}
use mathlib.Core.Path.{refl, ap, ◌∙◌}
use mathlib.Core.Bool.{Bool}
use Rattle.modes.specs.Answers.{Verdict}
use Rattle.modes.proofs.Refusals.{handed_on}
use Rattle.record.specs.Refusals.{term_refusal}
use Rattle.record.proofs.Header.{laid}
use lib.ListN.{length}
use Rattle.record.proofs.Reading.{none_left, length_terms}
use Rattle.record.proofs.Checking.{begin, refuses, goes, none_refused, total, too_heavy, term_refused, heavy_refused, accepted_is}
use Rattle.record.proofs.check_terms.Goals as goal

pub loop-i-init : goal.loop-i-init
loop-i-init c = begin _ _ _

pub of-terms-requires : goal.of-terms-requires
of-terms-requires c = omega (arith, (laid _ c.requires.0).size, c.requires.2)

pub get-t-requires : goal.get-t-requires
get-t-requires c = omega (arith, ap length c.of-terms.ensures, length_terms c.args.s.now c.args.n)

pub returns-in_err-term_refusal : goal.returns-in_err-term_refusal
returns-in_err-term_refusal c =
    let judge : Bool → Verdict = λ up. term_refusal c.args.operand c.args.m c.loop-i.i up c.get-t.result in
    let judged = ◌∙◌ {b = judge c.follows-up.result} c.in_err-term_refusal.ensures (ap judge c.follows-up.ensures) in
    handed_on _ _ c.from_residual.ensures.0 c.from_residual.ensures.1
    ∙ term_refused _ _ _ _ c.requires.0 c.requires.1 c.requires.2 _
    (refuses _ _ _ _ _ _ c.loop-i.invariant _ (rw c.of-terms.ensures at c.get-t.ensures) _ judged (λ z. cc))

pub loop-i-preserved : goal.loop-i-preserved
loop-i-preserved c =
    let judge : Bool → Verdict = λ up. term_refusal c.args.operand c.args.m c.loop-i.i up c.get-t.result in
    let judged = ◌∙◌ {b = judge c.follows-up.result} c.in_ok-term_refusal.ensures (ap judge c.follows-up.ensures) in
    rw c.heavier-w.ensures (goes _ _ _ _ _ _ c.loop-i.invariant _ (rw c.of-terms.ensures at c.get-t.ensures) _ judged refl _ c.size.ensures.0)

pub returns-then-w-gt-HEAVIEST : goal.returns-then-w-gt-HEAVIEST
returns-then-w-gt-HEAVIEST c =
    let done = none_left c.args.s.now _ _ c.loop-i-test.false in
    heavy_refused _ _ _ _ c.requires.0 c.requires.1 c.requires.2 (none_refused _ _ _ _ _ _ c.loop-i.invariant done)
    (too_heavy _ _ _ _ _ _ c.loop-i.invariant done c.if-w-gt-HEAVIEST.true)

pub returns : goal.returns
returns c =
    let done = none_left c.args.s.now _ _ c.loop-i-test.false in
    accepted_is _ _ _ _ c.requires.0 c.requires.1 c.requires.2 (none_refused _ _ _ _ _ _ c.loop-i.invariant done) _
    (total _ _ _ _ _ _ c.loop-i.invariant done c.if-w-gt-HEAVIEST.false) c.if-w-gt-HEAVIEST.false
