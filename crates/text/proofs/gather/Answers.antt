-- `text::gather` meets its contract. The invariant: the rows of the lines so far stand at the front of the work.
use Rattle.text.proofs.Gathering.{going_starts, writable, going_on, going_ends}
use Rattle.text.proofs.gather.Goals as goal

pub loop-at-init : goal.loop-at-init
loop-at-init c = going_starts _ _ c.requires

pub put_line_rows-used-requires : goal.put_line_rows-used-requires
put_line_rows-used-requires c =
    let piece = c.piece_end-end.ensures in
    writable _ _ _ _ _ c.loop-at.invariant c.loop-at-test.true _ piece.0 piece.1

pub loop-at-preserved : goal.loop-at-preserved
loop-at-preserved c =
    let rows = c.put_line_rows-used.ensures in
    let piece = c.piece_end-end.ensures in
    going_on _ _ _ _ _ c.loop-at.invariant c.loop-at-test.true _ piece.0 piece.1 _ _ rows.0 rows.1

pub returns : goal.returns
returns c = going_ends _ _ _ _ _ c.loop-at.invariant c.loop-at-test.false
