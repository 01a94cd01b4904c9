-- `products::ProductHelper::destroys` meets its contract: its two words have a mode exactly if the product is empty.
use mathlib.Core.Path.{◌≡◌, refl, sym, ap, ◌∙◌}
use mathlib.Core.Bool.{Bool, true, false, not}
use Prim.Native.Nat.{ℕ, ◌-◌, ◌^◌, ◌<◌}
use lib.Bits.{bit_and}
use lib.Dec.{eqb}
use borrow.Author.Tests.{ne_eqb, eqb-true, eqb-false}
use Rattle.products.specs.Product.{not_empty}
use Rattle.products.proofs.HelperWords.{full_where, empty_created, empty_annihilated}
use Rattle.products.proofs.ProductHelper.destroys.Goals as goal

-- the second word decides where the first has no mode
module _ (Lc La Rc Ra : ℕ) (hLc : Lc < 2 ^ 64) (hLa : La < 2 ^ 64) (hRc : Rc < 2 ^ 64) (hRa : Ra < 2 ^ 64) where
  second : ℕ
  second = bit_and (bit_and La Ra) ((2 ^ 64 - 1) - Rc)

  decided : bit_and (bit_and Lc Rc) ((2 ^ 64 - 1) - La) ≡ 0 → not (eqb (bit_and (bit_and La Ra) ((2 ^ 64 - 1) - Rc)) 0) ≡ not (not_empty Lc La Rc Ra)
  unfolding second
  decided e = go (eqb second 0) refl
    where
      go : (b : Bool) → eqb second 0 ≡ b → not b ≡ not (not_empty Lc La Rc Ra)
      go true f = ap not (sym (full_where Lc La Rc Ra hLc hLa hRc hRa e (eqb-true second 0 f)))
      go false f = ap not (sym (empty_annihilated Lc La Rc Ra hLc hLa hRc hRa (eqb-false second 0 f)))

pub returns-then-self-ne0 : goal.returns-then-self-ne0
returns-then-self-ne0 c =
    let k = c.struct_known-1.given in
    ap not (ne_eqb _ 0 c.if-self-ne0.true ∙ sym
    (empty_created c.args.self.l_cre c.args.self.l_ann c.args.self.r_cre c.args.self.r_ann k.0.fits k.1.0.fits k.1.1.0.fits
    k.1.1.1.0.fits c.if-self-ne0.true))

pub returns-else-self-ne0 : goal.returns-else-self-ne0
returns-else-self-ne0 c =
    let k = c.struct_known-1.given in
    decided c.args.self.l_cre c.args.self.l_ann c.args.self.r_cre c.args.self.r_ann k.0.fits k.1.0.fits k.1.1.0.fits
    k.1.1.1.0.fits c.if-self-ne0.false
