-- `record::read_term` meets its contract: each word is in its column.
use mathlib.Core.Path.{sym, ap, ◌∙◌, subst}
use mir.Syntax.{w64}
use mir.Val.{SFits, to_z}
use mir.Facts.{to_z-of_z}
use Rattle.modes.specs.declared.Term.{Term}
use Rattle.lent.proofs.RowLaws.{term_of}
use Rattle.record.specs.Layout.{terms_in}
use Rattle.record.specs.Reading.{At}
use Rattle.record.proofs.Reading.{term_at_is}
use Rattle.record.proofs.read_term.Goals as goal

pub returns : goal.returns
returns c =
    let small : SFits w64 c.signed-coeff.result = record { sfits = c.signed-coeff.type_inv } in
    subst (λ (t : Term). At (terms_in c.args.s.now c.args.n) c.args.i t)
    (sym (term_of c.word-ann.ensures c.word-cre.ensures (to_z-of_z small ∙ c.signed-coeff.ensures ∙ ap (to_z w64) c.word.ensures)))
    (term_at_is _ _ _ c.requires.1)
