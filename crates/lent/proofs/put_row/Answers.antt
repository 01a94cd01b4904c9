-- `lent::put_row` meets its contract: three words, side by side, are the row.
use Rattle.lent.proofs.RowLaws.{put_words}
use mathlib.Core.Path.{ap, ◌∙◌}
use mir.Syntax.{w64}
use mir.Val.{SFits, of_z}
use mir.Facts.{to_z-of_z}
use borrow.Author.Rules.{rules}
use Rattle.lent.proofs.put_row.Goals as goal

pub returns : goal.returns
returns c =
    let p1 = c.put_word in
    let p2 = c.put_word-2 in
    let p3 = c.put_word-3 in
    let b = c.bits in
    let small : SFits w64 c.args.t.coeff = search rules in
    put_words c.args.s.now p1.new.s p2.new.s p3.new.s c.args.at b.result c.args.t c.requires p1.ensures p2.ensures p3.ensures
    (b.ensures ∙ ap (of_z w64) (to_z-of_z small))
