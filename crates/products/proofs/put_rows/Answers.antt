-- `products::put_rows` meets its contract: the walk's rows are the product's, and where no mode branches there is one.
use mathlib.Core.Path.{ap, ◌∙◌}
use mathlib.Core.List.{List}
use Prim.Native.Nat.{ℕ}
use lib.ListN.{length}
use Rattle.modes.specs.Words.{bit}
use Rattle.modes.specs.Counts.{count}
use Rattle.modes.specs.declared.Term.{Term}
use Rattle.lent.specs.Bytes.{put}
use Rattle.lent.specs.Rows.{rows_bytes}
use Rattle.products.specs.Walk.{walk}
use Rattle.products.proofs.Multiplied.{lowest_is, walk_fits, walk_ends, walk_is, one_fits, one_ends, one_is}
use borrow.Author.Rules.{rules}
use Rattle.products.proofs.put_rows.Goals as goal

pub put_row-requires : goal.put_row-requires
put_row-requires c =
    one_fits c.args.helper _ c.ranges.left.fits c.args.coeff _ (length c.args.out.now) c.requires.0 c.if-left-eq0.true

pub overflow_add-result : goal.overflow_add-result
overflow_add-result c =
    let fits = one_fits c.args.helper _ c.ranges.left.fits c.args.coeff _ (length c.args.out.now) c.requires.0 c.if-left-eq0.true in
    search rules

pub returns-then-left-eq0 : goal.returns-then-left-eq0
returns-then-left-eq0 c =
    let none = c.if-left-eq0.true in (
      one_ends c.args.helper _ c.ranges.left.fits c.args.coeff _ (length c.args.out.now) c.requires.0 none,
      c.put_row.ensures
          ∙ ap (put c.args.out.now _)
          (one_is c.args.helper _ c.ranges.left.fits c.args.coeff _ (length c.args.out.now) c.requires.0 none _
          (lowest_is c.args.helper c.ranges.coeff _ c.lowest_row-row.ensures.0)),
    )

pub do_branch-requires : goal.do_branch-requires
do_branch-requires c =
    (walk_fits c.args.helper _ c.ranges.left.fits c.args.coeff _ (length c.args.out.now) c.requires.0, c.lowest_row-row.ensures.1)

pub returns : goal.returns
returns c =
    let lowest_row = c.lowest_row-row in
    let walked = c.do_branch.ensures in
    let filled : List Term → List ℕ = λ ts. put c.args.out.now c.args.at (rows_bytes ts) in (
      walked.0 ∙ walk_ends c.args.helper _ c.ranges.left.fits c.args.coeff _ (length c.args.out.now) c.requires.0,
      ◌∙◌ {b = filled (walk (count 64 (bit c.args.left)) c.args.left lowest_row.result)} walked.1
          (ap filled
          (walk_is c.args.helper _ c.ranges.left.fits c.args.coeff _ (length c.args.out.now) c.requires.0 _
          (lowest_is c.args.helper c.ranges.coeff _ lowest_row.ensures.0))),
    )
