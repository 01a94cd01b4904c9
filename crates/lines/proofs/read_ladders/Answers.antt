-- `lines::read_ladders` meets its contract. The invariant: what is read of the ladders so far, and those to come.
use mathlib.Core.Path.{◌∙◌}
use native.Mathlib.Omega.{arith}
use Rattle.lines.specs.Grammar.{space}
use Rattle.lines.proofs.Pieces.{next_field, rest_none}
use Rattle.lines.proofs.Fields.{going_on, going_breaks, going_ends}
use Rattle.lines.proofs.read_ladders.Goals as goal

pub returns-in_err-read_ladder : goal.returns-in_err-read_ladder
returns-in_err-read_ladder c =
    let field = next_field space c.args.line.now _ _ c.loop-end-test.true c.piece_end-end.ensures.0 in
    c.from_residual.ensures ∙ going_breaks _ c.requires.1 _ _ _ c.loop-end.invariant.2 _ _ field c.in_err-read_ladder.ensures

pub loop-end-preserved : goal.loop-end-preserved
loop-end-preserved c =
    let piece = c.piece_end-end.ensures in
    let more = c.one_more-x.ensures in
    let field = next_field space c.args.line.now _ _ c.loop-end-test.true piece.0 in (
      piece.1,
      omega (arith, c.loop-end.invariant.1, more.1, piece.0),
      going_on _ c.requires.1 _ _ _ c.loop-end.invariant.2 _ _ field _ c.in_ok-read_ladder.ensures _ more.0 more.1,
    )

pub returns : goal.returns
returns c =
    going_ends _ c.requires.1 _ _ _ c.loop-end.invariant.2 (rest_none space c.args.line.now _ c.loop-end-test.false)
