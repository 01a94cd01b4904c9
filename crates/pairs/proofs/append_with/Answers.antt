-- `pairs::append_with` meets its contract: of the rows of one term with all, some are there and the rest is to come.
use mathlib.Core.List.{[], ◌++◌}
use native.Mathlib.Omega.{arith}
use lib.ListN.{drop_of_length-le}
use Rattle.std.specs.Prelude.{is_some}
use Rattle.modes.proofs.Sums.{by_front, by_nothing}
use Rattle.pairs.specs.Products.{minus_of, pair_rows}
use Rattle.pairs.proofs.Pairing.{progress_goes, progress_over, progress_ends, pair_light}
use Rattle.pairs.proofs.append_with.Goals as goal

pub append_pair-at-requires : goal.append_pair-at-requires
append_pair-at-requires c =
    let v = c.loop-j in
    (v.invariant.room, pair_light _ c.args.b.now v.j _ c.get-u.ensures c.requires.1)

pub returns-then-work-at : goal.returns-then-work-at
returns-then-work-at c =
    let v = c.loop-j in
    let step = c.append_pair-at in
    let next = by_front ◌++◌ [] (pair_rows (is_some c.args.other) (minus_of c.args.other) c.args.t) c.get-u.ensures in
    progress_over _ _ c.args.work.now c.args.s v.work v.at v.invariant _ _ next step.new.work step.result step.auto.work step.ensures
    c.if-work-at.true

pub loop-j-preserved : goal.loop-j-preserved
loop-j-preserved c =
    let v = c.loop-j in
    let step = c.append_pair-at in
    let next = by_front ◌++◌ [] (pair_rows (is_some c.args.other) (minus_of c.args.other) c.args.t) c.get-u.ensures in
    progress_goes _ _ c.args.work.now c.args.s v.work v.at v.invariant _ _ next step.new.work step.result step.auto.work step.ensures
    c.if-work-at.false

pub returns : goal.returns
returns c =
    let v = c.loop-j in
    progress_ends _ _ c.args.work.now c.args.s v.work v.at v.invariant
    (by_nothing ◌++◌ [] (pair_rows (is_some c.args.other) (minus_of c.args.other) c.args.t)
    (drop_of_length-le c.args.b.now {i = v.j} (omega arith)))
