-- `text::place_line` meets its contract: the line made apart, and then to the output if it fits.
use mathlib.Core.Path.{sym}
use native.Mathlib.Omega.{arith}
use lib.Seq.{length-take-le}
use Rattle.decimals.proofs.Stores.{stored_inside}
use Rattle.term_lines.specs.Written.{term_text}
use Rattle.text.proofs.Placing.{line_placed}
use Rattle.text.proofs.place_line.Goals as goal

pub slice_bounds-line-end : goal.slice_bounds-line-end
slice_bounds-line-end c =
    stored_inside (term_text c.args.t) (omega arith) c.put_line-len.ensures

pub slice_bounds-copy-end : goal.slice_bounds-copy-end
slice_bounds-copy-end c =
    let line = c.put_line-len in
    sym (length-take-le line.result line.new.s (stored_inside (term_text c.args.t) (omega arith) line.ensures))

pub returns : goal.returns
returns c =
    line_placed c.args.out.now c.args.at _ _ _ _ c.put_line-len.ensures (omega (arith, c.requires, c.if-out-at.false)) _ c.copy.ensures
