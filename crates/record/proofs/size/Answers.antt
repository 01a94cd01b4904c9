-- `record::size` meets its contract.
use mir.Facts.{to_z-of_z}
use mir.Syntax.{w64}
use mir.Val.{SFits}
use borrow.Author.Rules.{rules}
use Rattle.record.proofs.size.Goals as goal

pub returns : goal.returns
returns c =
    let small : SFits w64 c.args.t.coeff = search rules in
    rw (to_z-of_z small) at c.magnitude.ensures
