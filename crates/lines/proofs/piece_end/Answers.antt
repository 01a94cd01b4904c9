-- `lines::piece_end` meets its contract. The invariant: no such byte so far.
use Rattle.lines.proofs.Pieces.{looking_goes, looking_found, looking_ends}
use Rattle.lines.proofs.piece_end.Goals as goal

pub returns-then-s-end : goal.returns-then-s-end
returns-then-s-end c = looking_found _ _ _ _ c.loop-end.invariant c.loop-end-test.true c.if-s-end.true

pub loop-end-preserved : goal.loop-end-preserved
loop-end-preserved c = looking_goes _ _ _ _ c.loop-end.invariant c.loop-end-test.true c.if-s-end.false

pub returns : goal.returns
returns c = looking_ends _ _ _ _ c.loop-end.invariant c.loop-end-test.false
