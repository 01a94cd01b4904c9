-- `lines::ladders_of` meets its contract. The invariant: what the ladders so far make, and those to come.
use native.Mathlib.Omega.{arith}
use Rattle.lines.specs.Grammar.{space}
use Rattle.lines.proofs.Pieces.{next_field, rest_none}
use Rattle.lines.proofs.Fields.{walks_on, walk_ends}
use Rattle.lines.proofs.ladders_of.Goals as goal

pub loop-end-preserved : goal.loop-end-preserved
loop-end-preserved c =
    let piece = c.piece_end-end.ensures in
    let more = c.one_more-x.ensures in
    let field = next_field space c.args.line.now _ _ c.loop-end-test.true piece.0 in (
      piece.1,
      omega (arith, c.loop-end.invariant.1, more.1, piece.0),
      walks_on _ c.requires.1 _ _ _ c.loop-end.invariant.2 _ _ field _ c.ladder_of.ensures _ more.0 more.1,
    )

pub returns : goal.returns
returns c =
    walk_ends _ c.requires.1 _ _ _ c.loop-end.invariant.2 (rest_none space c.args.line.now _ c.loop-end-test.false)
