-- `pairs::append_pair` meets its contract: the coefficients are the product, and the product with the sign.
use Rattle.pairs.proofs.Appending.{appended_as}
use Rattle.pairs.proofs.Filling.{product_adds}
use Rattle.pairs.proofs.Pairing.{one_order, both_orders}
use borrow.Author.Rules.{rules}
use Rattle.pairs.proofs.append_pair.Goals as goal

pub returns-in-None : goal.returns-in-None
returns-in-None c =
    let one = c.append in
    rw c.in-None.is (one_order _ c.args.t c.args.u (search rules)
    (search rules) c.requires.1 _ c.product-coeff.ensures
    (product_adds (record {
      ready = c.requires.0;
      len = one.auto.work;
      is = appended_as c.args.t c.args.u c.product-coeff.result _
          c.helper_of.ensures (record { sfits = c.product-coeff.type_inv }) one.ensures;
    })))

pub returns-in-Some : goal.returns-in-Some
returns-in-Some c =
    rw c.in-Some.is (both_orders _ c.args.t c.args.u (search rules)
    (search rules) c.requires.1 _ c.product-coeff.ensures _ c.signed_coeff-swapped.ensures
    c.append_both.ensures)
