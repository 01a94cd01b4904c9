-- `products::ProductHelper::bifurcations` meets its contract, mode by mode.
use Rattle.products.proofs.HelperWords.{bifurcating}
use Rattle.products.proofs.ProductHelper.bifurcations.Goals as goal

pub returns : goal.returns
returns c p =
    let k = c.struct_known-1.given in
    bifurcating c.args.self.l_cre c.args.self.l_ann c.args.self.r_cre c.args.self.r_ann k.0.fits k.1.0.fits k.1.1.0.fits
    k.1.1.1.0.fits p
