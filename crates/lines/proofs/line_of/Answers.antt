-- `lines::line_of` meets its contract: the coefficient, and the ladders after it.
use Rattle.lines.specs.Grammar.{space}
use Rattle.lines.proofs.Pieces.{pieces_first}
use Rattle.lines.proofs.Fields.{line_made_is}
use Rattle.lines.proofs.line_of.Goals as goal

pub returns : goal.returns
returns c =
    let first = pieces_first space c.args.line.now _ c.piece_end-end.ensures.0 in
    line_made_is c.args.m c.args.line.now _ _ first _ c.coefficient_of-c.ensures _ c.ladders_of-x.ensures
