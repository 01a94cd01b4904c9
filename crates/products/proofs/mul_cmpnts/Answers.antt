-- `products::mul_cmpnts` meets its contract: empty, the rows, or no room.
use mathlib.Core.Path.{sym, ◌∙◌, subst}
use Prim.Native.Nat.{ℕ, ◌*◌, ◌^◌, ◌<◌}
use lib.Count.{ones}
use lib.ListN.{length}
use borrow.Author.Tests.{not-true, not-false, leb-true, leb-false}
use Rattle.lent.specs.Outputs.{Output, Gives}
use Rattle.lent.proofs.Outputs.{refused_gives}
use Rattle.products.specs.Product.{not_empty}
use Rattle.products.proofs.Multiplied.{bifurcation_number, empty_is, seven_is}
use Rattle.products.proofs.mul_cmpnts.Goals as goal

pub returns-then-destroys : goal.returns-then-destroys
returns-then-destroys c =
    let empty =
    not-true (not_empty c.args.l_cre c.args.l_ann c.args.r_cre c.args.r_ann)
    (sym c.destroys.ensures ∙ c.if-destroys.true) in
    empty_is c.args.l_cre c.args.l_ann c.args.r_cre c.args.r_ann (length c.args.out.now) _ empty c.wipe.ensures

pub write_rows-requires : goal.write_rows-requires
write_rows-requires c =
    record {
      full =
          not-false (not_empty c.args.l_cre c.args.l_ann c.args.r_cre c.args.r_ann)
          (sym c.destroys.ensures ∙ c.if-destroys.false);
      modes = c.bifurcations-left.ensures;
      fit =
          leb-true (24 * 2 ^ ones c.bifurcations-left.result) (length c.args.out.now)
          (sym c.rows_fit.ensures ∙ c.if-rows_fit.true);
    }

pub returns : goal.returns
returns c =
    let refuse = c.refuse in
    let modes = c.bifurcations-left in
    let full = not-false (not_empty c.args.l_cre c.args.l_ann c.args.r_cre c.args.r_ann) (sym c.destroys.ensures ∙ c.if-destroys.false) in
    let number = bifurcation_number c.args.l_cre c.args.l_ann c.args.r_cre c.args.r_ann modes.result modes.type_inv modes.ensures in
    let tight = leb-false (24 * 2 ^ ones modes.result) (length c.args.out.now) (sym c.rows_fit.ensures ∙ c.if-rows_fit.false) in
    subst (λ (o : Output). Gives o refuse.result refuse.new.out)
    (seven_is c.args.l_cre c.args.l_ann c.args.r_cre c.args.r_ann (length c.args.out.now) full
    (subst (λ (n : ℕ). length c.args.out.now < 24 * 2 ^ n) number tight)) (refused_gives _ refuse.ensures)
