-- `expand::put_line_rows` meets its contract: the fields after the coefficient are the line's ladders.
use Rattle.expand.proofs.Fields.{coefficient_light, line_writable, line_wrote}
use Rattle.expand.proofs.put_line_rows.Goals as goal

pub start_at-start-requires : goal.start_at-start-requires
start_at-start-requires c =
    let piece = c.piece_end-end.ensures in (piece.1, coefficient_light c.requires piece.0)

pub put_rows-requires : goal.put_rows-requires
put_rows-requires c =
    let piece = c.piece_end-end.ensures in
    line_writable c.requires piece.0 c.start_at-start.ensures piece.1

pub returns : goal.returns
returns c =
    line_wrote c.requires c.piece_end-end.ensures.0 c.start_at-start.ensures c.args.work.now _ _ c.put_rows.ensures
