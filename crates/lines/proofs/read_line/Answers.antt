-- `lines::read_line` meets its contract: the coefficient, and the ladders after it.
use mathlib.Core.Path.{◌∙◌}
use Rattle.lines.specs.Grammar.{space}
use Rattle.lines.proofs.Pieces.{pieces_first}
use Rattle.lines.proofs.Fields.{coefficient_breaks, ladders_break, line_read_is}
use Rattle.lines.proofs.read_line.Goals as goal

pub returns-in_err-c : goal.returns-in_err-c
returns-in_err-c c =
    let first = pieces_first space c.args.line.now _ c.piece_end-end.ensures.0 in
    c.from_residual.ensures ∙ coefficient_breaks c.args.m c.args.line.now _ _ first c.in_err-c.ensures

pub returns-in_err-x : goal.returns-in_err-x
returns-in_err-x c =
    let first = pieces_first space c.args.line.now _ c.piece_end-end.ensures.0 in
    c.from_residual-in_err-x.ensures ∙ ladders_break c.args.m c.args.line.now _ _ first _ c.in_ok-c.ensures c.in_err-x.ensures

pub returns : goal.returns
returns c =
    let first = pieces_first space c.args.line.now _ c.piece_end-end.ensures.0 in
    line_read_is c.args.m c.args.line.now _ _ first _ c.in_ok-c.ensures _ c.in_ok-x.ensures
