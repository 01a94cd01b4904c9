-- `normal::joined` meets its contract.
use mir.Syntax.{w64}
use mir.Val.{SFits}
use mir.Facts.{to_z-of_z}
use Rattle.normal.specs.Normal.{join}
use borrow.Author.Rules.{rules}
use Rattle.normal.proofs.joined.Goals as goal

pub returns : goal.returns
unfolding join
returns c =
    let t : SFits w64 c.args.t.coeff = search rules in
    let u : SFits w64 c.args.u.coeff = search rules in
    let r : SFits w64 c.sum-coeff.result = record { sfits = c.sum-coeff.type_inv } in
    rw (to_z-of_z r, c.sum-coeff.ensures, to_z-of_z t, to_z-of_z u)
