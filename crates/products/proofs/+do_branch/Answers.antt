-- `products::do_branch` meets its contract: both branches have fewer modes left, and their rows stand one after the other.
use mathlib.Core.Path.{◌≡◌, sym, ap, ◌∙◌}
use Prim.Native.Nat.{◌-◌, ◌^◌, ◌<◌}
use native.Mathlib.Omega.{arith}
use lib.Bits.{and_le_l}
use Rattle.modes.specs.Words.{bit}
use Rattle.modes.specs.Counts.{count}
use Rattle.modes.proofs.Lowest.{less_lt}
use Rattle.lent.specs.Bytes.{put}
use Rattle.products.proofs.Walks.{none_left, one_left, twice_left, walk_none, walk_both}
use Rattle.products.proofs.+do_branch.Goals as goal

pub put_row-requires : goal.put_row-requires
put_row-requires t c =
    let one : 2 ^ count 64 (bit c.args.left) ≡ 1 = rw (none_left c.args.left c.if-left-eq0.true) in omega (arith, c.requires.0)

pub returns-then-left-eq0 : goal.returns-then-left-eq0
returns-then-left-eq0 t c =
    let zero_left = c.if-left-eq0.true in
    let one : 2 ^ count 64 (bit c.args.left) ≡ 1 = rw (none_left c.args.left zero_left) in
    (omega arith, c.put_row.ensures ∙ ap (put c.args.out.now c.args.at) (sym (walk_none c.args.left c.args.row zero_left)))

pub overflow_sub-less : goal.overflow_sub-less
overflow_sub-less t c = omega arith

pub overflow_sub-left : goal.overflow_sub-left
overflow_sub-left t c = and_le_l c.args.left (c.args.left - 1)

pub keep-high-requires : goal.keep-high-requires
keep-high-requires t c =
    (one_left c.args.left (omega arith) c.ranges.left.fits, c.requires.1)

pub do_branch-next-requires : goal.do_branch-next-requires
do_branch-next-requires t c =
    let some : 0 < c.args.left = omega (arith, c.if-left-eq0.false) in
    (omega (arith, c.decreases, less_lt c.args.left some), (omega (arith, c.requires.0, twice_left c.args.left some c.ranges.left.fits), c.requires.1))

pub do_branch-requires : goal.do_branch-requires
do_branch-requires t c =
    let some : 0 < c.args.left = omega (arith, c.if-left-eq0.false) in
    let first = c.do_branch-next in (
      omega (arith, c.decreases, less_lt c.args.left some),
      (
        omega (arith, c.requires.0, first.ensures.0, first.auto.out, twice_left c.args.left some c.ranges.left.fits),
        c.keep-high.ensures.1,
      ),
    )

pub returns : goal.returns
returns t c =
    let some : 0 < c.args.left = omega (arith, c.if-left-eq0.false) in
    let high = c.keep-high.ensures.0 in
    let first = c.do_branch-next.ensures in
    let second = c.do_branch.ensures in (
      omega (arith, first.0, second.0, twice_left c.args.left some c.ranges.left.fits),
      rw (second.1, first.1, first.0, high)
          (walk_both c.args.left c.args.row some c.ranges.left.fits c.args.out.now c.args.at (omega (arith, c.requires.0))),
    )
