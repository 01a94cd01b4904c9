-- `pairs::append_all` meets its contract: of the rows of all pairs, some are there and the rest is to come.
use mathlib.Core.List.{List, [], ◌++◌}
use native.Mathlib.Omega.{arith}
use lib.ListN.{drop_of_length-le}
use Rattle.std.specs.Prelude.{is_some}
use Rattle.modes.specs.declared.Term.{Term}
use Rattle.modes.proofs.Sums.{by_front, by_nothing}
use Rattle.record.specs.Terms.{weight}
use Rattle.pairs.specs.Products.{minus_of, rows_with}
use Rattle.pairs.proofs.Pairing.{progress_goes, progress_over, progress_ends, from_nothing, one_light}
use Rattle.pairs.proofs.append_all.Goals as goal

pub append_with-at-requires : goal.append_with-at-requires
append_with-at-requires c =
    let v = c.loop-i in
    (v.invariant.room, one_light c.args.a.now (weight c.args.b.now) v.i _ c.get-t.ensures c.requires)

pub returns-then-work-at : goal.returns-then-work-at
returns-then-work-at c =
    let v = c.loop-i in
    let step = c.append_with-at in
    let got = c.get-t in
    let with_b : Term → List Term = λ t. rows_with (is_some c.args.other) (minus_of c.args.other) t c.args.b.now in
    let next = by_front ◌++◌ [] with_b got.ensures in
    from_nothing _ c.args.work.now _ _
    (progress_over _ _ c.args.work.now _ v.work v.at v.invariant (with_b got.result) _ next
    step.new.work step.result step.auto.work step.ensures c.if-work-at.true)

pub loop-i-preserved : goal.loop-i-preserved
loop-i-preserved c =
    let v = c.loop-i in
    let step = c.append_with-at in
    let got = c.get-t in
    let with_b : Term → List Term = λ t. rows_with (is_some c.args.other) (minus_of c.args.other) t c.args.b.now in
    let next = by_front ◌++◌ [] with_b got.ensures in
    progress_goes _ _ c.args.work.now _ v.work v.at v.invariant (with_b got.result) _ next
    step.new.work step.result step.auto.work step.ensures c.if-work-at.false

pub returns : goal.returns
returns c =
    let v = c.loop-i in
    let with_b : Term → List Term = λ t. rows_with (is_some c.args.other) (minus_of c.args.other) t c.args.b.now in
    from_nothing _ c.args.work.now _ _
    (progress_ends _ _ c.args.work.now _ v.work v.at v.invariant
    (by_nothing ◌++◌ [] with_b (drop_of_length-le c.args.a.now {i = v.i} (omega arith))))
