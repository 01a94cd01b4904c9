-- `reply::answer` meets its contract: the two parts to `multiply::commutator`, or the refusal of the first.
use mathlib.Core.Path.{sym, ◌∙◌}
use native.Mathlib.Omega.{arith}
use lib.ListN.{length}
use lib.Seq.{length-take-le}
use Rattle.reply.proofs.Replies.{leaves_as, refused_leaves, header_there, total_there, answer_parts, answer_short}
use Rattle.reply.proofs.answer.Goals as goal

pub total-end-requires : goal.total-end-requires
total-end-requires c = omega (arith, header_there c.args.input.now (sym c.holds_first.ensures ∙ c.if-holds_first.true))

pub slice_bounds-commutator-end : goal.slice_bounds-commutator-end
slice_bounds-commutator-end c =
    let input = c.args.input.now in
    sym (length-take-le c.total-end.result input
    (omega (arith, total_there input (sym c.holds_first.ensures ∙ c.if-holds_first.true), c.total-end.ensures.0)))

pub slice_bounds-commutator-count : goal.slice_bounds-commutator-count
slice_bounds-commutator-count c =
    omega (
      arith,
      total_there c.args.input.now
          (sym c.holds_first.ensures ∙ c.if-holds_first.true),
      c.total-end.ensures.0,
    )

pub slice_bounds-commutator-start : goal.slice_bounds-commutator-start
slice_bounds-commutator-start c =
    omega (
      arith,
      total_there c.args.input.now
          (sym c.holds_first.ensures ∙ c.if-holds_first.true),
      c.total-end.ensures.0,
    )

pub returns-then-holds_first : goal.returns-then-holds_first
returns-then-holds_first c =
    leaves_as (answer_parts c.args.input.now (sym c.holds_first.ensures ∙ c.if-holds_first.true) (length c.args.work.now)
    (length c.args.out.now) _ c.total-end.ensures.0) c.commutator.ensures

pub returns : goal.returns
returns c =
    leaves_as (answer_short c.args.input.now (sym c.holds_first.ensures ∙ c.if-holds_first.false) (length c.args.work.now)
    (length c.args.out.now)) (refused_leaves _ _ c.refuse.ensures)
