-- `pairs::append_both` meets its contract: each way through it adds the rows of both products.
use mathlib.Core.Path.{◌≡◌}
use mathlib.Core.List.{List}
use Prim.Native.Nat.{ℕ}
use lib.IntN.{ℤ}
use lib.ListN.{length}
use mir.Syntax.{w64}
use mir.Val.{SFits, to_z, of_z}
use Rattle.modes.specs.declared.Term.{Term}
use Rattle.products.specs.Product.{rows_times}
use Rattle.products.specs.Fitting.{rows_of}
use Rattle.products.specs.declared.ProductHelper.{ProductHelper}
use Rattle.pairs.specs.Filling.{Appended, Room}
use Rattle.pairs.specs.declared.Fill.{Fill}
use Rattle.pairs.proofs.Appending.{appended_as}
use Rattle.pairs.proofs.Filling.{Product, product_room, product_adds, adds_then, second_over, settled_adds}
use Rattle.pairs.proofs.append_both.Goals as goal

-- the rows of t times u
abbrev rows : Term → Term → ℤ → List Term
rows t u z = rows_times t.cre t.ann u.cre u.ann z

-- the rows that `append` writes of t times u, where there is room
product : (t u : Term) (z : ℤ) {h : ProductHelper} → h ≡ record { l_cre = t.cre; l_ann = t.ann; r_cre = u.cre; r_ann = u.ann } → SFits w64 z
    → {l m : List ℕ} {s r : Fill} → Room l s → length m ≡ length l → Appended (rows_of h (to_z w64 (of_z w64 z))) l s m r → Product (rows t u z) l s m r
product t u z e f room len g = record { ready = room; len = len; is = appended_as t u z _ e f g }

pub returns-then-one-s : goal.returns-then-one-s
returns-then-one-s c =
    let in_reverse = rows c.args.u c.args.t c.args.swapped in
    let first = product c.args.t c.args.u c.args.coeff c.helper_of.ensures c.ranges.coeff c.requires.0 c.append-one.auto.work c.append-one.ensures in
    let two = c.append in
    let few = c.if-work-one.false in
    let other = product c.args.u c.args.t c.args.swapped c.helper_of-then-one-s.ensures c.ranges.swapped (product_room first few) two.auto.work two.ensures in
    adds_then _ in_reverse (product_adds first) few (product_adds other)

pub returns-then-work-two : goal.returns-then-work-two
returns-then-work-two c =
    let in_reverse = rows c.args.u c.args.t c.args.swapped in
    let first = product c.args.t c.args.u c.args.coeff c.helper_of.ensures c.ranges.coeff c.requires.0 c.append-one.auto.work c.append-one.ensures in
    let second = appended_as c.args.u c.args.t c.args.swapped _ c.helper_of-2.ensures c.ranges.swapped c.append-two.ensures in
    second_over first c.if-work-one.false c.if-one-s.false in_reverse c.append-two.auto.work second c.if-work-two.true

pub returns : goal.returns
returns c =
    let in_reverse = rows c.args.u c.args.t c.args.swapped in
    let first = product c.args.t c.args.u c.args.coeff c.helper_of.ensures c.ranges.coeff c.requires.0 c.append-one.auto.work c.append-one.ensures in
    let second = appended_as c.args.u c.args.t c.args.swapped _ c.helper_of-2.ensures c.ranges.swapped c.append-two.ensures in
    let settled = c.settle in
    settled_adds first c.if-work-one.false c.if-one-s.false in_reverse c.append-two.auto.work second c.if-work-two.false _
    c.get_row-row.ensures.0 _ _ settled.auto.work settled.ensures
