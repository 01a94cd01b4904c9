-- `reply::tell` meets its contract: the line made apart, and then to the output if it fits.
use mathlib.Core.Path.{sym}
use native.Mathlib.Omega.{arith}
use lib.Seq.{length-take-le}
use Rattle.reply.specs.Lines.{line_of_numbers}
use Rattle.decimals.proofs.Stores.{stored_inside}
use Rattle.reply.proofs.Lines.{told_nothing, told_line}
use Rattle.reply.proofs.tell.Goals as goal

pub returns-then-out-len : goal.returns-then-out-len
returns-then-out-len c =
    told_nothing c.args.out.now c.args.number c.args.operand c.args.place _ _ _ c.put_line-len.ensures _ c.if-out-len.true c.wipe.ensures

pub slice_bounds-line-end : goal.slice_bounds-line-end
slice_bounds-line-end c =
    stored_inside (line_of_numbers c.args.number c.args.operand c.args.place) (omega arith) c.put_line-len.ensures

pub slice_bounds-copy-end : goal.slice_bounds-copy-end
slice_bounds-copy-end c =
    let line = c.put_line-len in
    sym (length-take-le line.result line.new.s (stored_inside (line_of_numbers c.args.number c.args.operand c.args.place) (omega arith) line.ensures))

pub returns : goal.returns
returns c =
    told_line c.args.out.now c.args.number c.args.operand c.args.place _ _ _ c.put_line-len.ensures _ _ c.if-out-len.false
    c.copy.ensures c.copy.auto.s c.wipe_from.ensures
