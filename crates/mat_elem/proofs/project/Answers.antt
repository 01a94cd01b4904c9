-- `mat_elem::project` meets its contract. The invariant: the rows of the first `i` bras are filled.
use Rattle.mat_elem.specs.Matrix.{matrix_of}
use Rattle.mat_elem.proofs.Filling.{fills_word, filled_words}
use Rattle.mat_elem.proofs.project.Goals as goal

pub loop-i-preserved : goal.loop-i-preserved
loop-i-preserved c =
    let l = c.loop-i in
    fills_word _ _ c.args.basis.now c.requires.1 l.i l.rows l.invariant _ c.loop-i-test.true c.row_of.ensures

pub returns : goal.returns
unfolding matrix_of
returns c =
    let l = c.loop-i in
    filled_words _ _ c.args.basis.now c.requires.1 l.i l.rows l.invariant l.auto.i-end c.loop-i-test.false
