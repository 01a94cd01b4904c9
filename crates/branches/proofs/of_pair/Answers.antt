-- `branches::of_pair` meets its contract: an empty product has no branches, another one a branch for each choice of its branching modes.
use mathlib.Core.Path.{◌≡◌, sym, ap, ◌∙◌}
use mathlib.Core.Bool.{Bool, true, false, not, cond}
use Prim.Native.Nat.{ℕ, ◌^◌, ◌<◌}
use native.Mathlib.Omega.{arith}
use lib.Count.{ones}
use Rattle.modes.specs.Words.{bit}
use Rattle.modes.specs.Counts.{count}
use Rattle.products.specs.Product.{not_empty, branching}
use Rattle.products.specs.declared.ProductHelper.{ProductHelper}
use Rattle.products.proofs.Multiplied.{bifurcation_number}
use Rattle.pairs.proofs.Appending.{empty_where, full_where}
use Rattle.branches.specs.Ceiling.{up_to}
use Rattle.branches.proofs.Ceiling.{up_exact}
use Rattle.branches.proofs.of_pair.Goals as goal

-- the branches of a product by its words
abbrev number : ProductHelper → ℕ
number h = cond (not_empty h.l_cre h.l_ann h.r_cre h.r_ann) (2 ^ count 64 (branching h.l_cre h.l_ann h.r_cre h.r_ann)) 0

-- d is what `destroys` answers
module _ (h : ProductHelper) (d : Bool) (is : d ≡ not (not_empty h.l_cre h.l_ann h.r_cre h.r_ann)) where
  empty : d ≡ true → 0 ≡ up_to (number h)
  empty e = rw (empty_where d (not_empty h.l_cre h.l_ann h.r_cre h.r_ann) is e) (sym (up_exact 0 (omega arith)))

  -- w are the branching modes
  full : d ≡ false → (w r : ℕ) → w < 2 ^ 64 → ((p : ℕ) → bit w p ≡ branching h.l_cre h.l_ann h.r_cre h.r_ann p)
      → r ≡ up_to (2 ^ ones w) → r ≡ up_to (number h)
  full e w r small modes q =
      let rows = bifurcation_number h.l_cre h.l_ann h.r_cre h.r_ann w small modes in
      rw (full_where d (not_empty h.l_cre h.l_ann h.r_cre h.r_ann) is e) (q ∙ ap (λ (n : ℕ). up_to (2 ^ n)) rows)

pub returns-then-destroys : goal.returns-then-destroys
returns-then-destroys c =
    let words = c.helper_of-helper in
    empty words.result _ c.destroys.ensures c.if-destroys.true ∙ ap (λ (h : ProductHelper). up_to (number h)) words.ensures

pub returns : goal.returns
returns c =
    let words = c.helper_of-helper in
    let modes = c.bifurcations in
    full words.result _ c.destroys.ensures c.if-destroys.false modes.result _ modes.type_inv modes.ensures c.rows_of.ensures
    ∙ ap (λ (h : ProductHelper). up_to (number h)) words.ensures
