-- `lent::get_row` meets its contract: each word is in its place.
use mathlib.Core.Path.{ap, ◌∙◌}
use mir.Syntax.{w64}
use mir.Val.{SFits, to_z}
use mir.Facts.{to_z-of_z}
use Rattle.lent.specs.Rows.{row_at}
use Rattle.lent.proofs.RowLaws.{term_of}
use Rattle.lent.proofs.get_row.Goals as goal

pub returns : goal.returns
unfolding row_at
returns c =
    let small : SFits w64 c.signed-coeff.result = record { sfits = c.signed-coeff.type_inv } in (
      term_of c.word-ann.ensures c.word-cre.ensures
          (to_z-of_z small ∙ c.signed-coeff.ensures ∙ ap (to_z w64) c.word.ensures),
      record { ann = c.word-ann.type_inv; cre = c.word-cre.type_inv; coeff = rw (to_z-of_z small) small },
    )
