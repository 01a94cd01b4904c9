-- `mat_elem::row_of` meets its contract. The invariant: the entries of the first `j` kets are filled.
use mir.Syntax.{w64}
use mir.Val.{SFits}
use mir.Facts.{to_z-of_z}
use Rattle.mat_elem.specs.Matrix.{row_of}
use mathlib.Core.Path.{ap, ◌∙◌}
use mathlib.Core.List.{List}
use lib.IntN.{ℤ}
use Rattle.mat_elem.proofs.Filling.{fills_word, filled_words}
use Rattle.mat_elem.proofs.row_of.Goals as goal

pub loop-j-preserved : goal.loop-j-preserved
loop-j-preserved c =
    let l = c.loop-j in
    let small : SFits w64 c.sum_parts.result = record { sfits = c.sum_parts.type_inv } in
    fills_word _ _ c.args.basis.now c.requires.1 l.j l.entries l.invariant _ c.loop-j-test.true (to_z-of_z small ∙ c.sum_parts.ensures)

pub returns : goal.returns
unfolding row_of
returns c =
    let l = c.loop-j in
    ap (λ (v : List ℤ). record { entries = v }) (filled_words _ _ c.args.basis.now c.requires.1 l.j l.entries l.invariant l.auto.j-end c.loop-j-test.false)
