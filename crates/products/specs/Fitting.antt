-- The rows of the product of a helper's words, and when the code may write them. For inner functions only.
use Rattle.std.specs.Prelude.{◌≡◌, true, List, ℕ, ◌*◌, ◌^◌, ◌≤◌, ℤ}
use Rattle.std.specs.Int.Count.{ones}
use Rattle.modes.specs.Words.{bit}
use Rattle.modes.specs.declared.Term.{Term}
use Rattle.products.specs.Product.{not_empty, branching, rows_times}
use Rattle.products.specs.declared.ProductHelper.{ProductHelper}

abbrev pub rows_of : ProductHelper → ℤ → List Term
rows_of h z = rows_times h.l_cre h.l_ann h.r_cre h.r_ann z

-- the product is not empty, `left` are its branching modes, and its rows fit in `room` bytes
pub record Fitting (h : ProductHelper) (left room : ℕ) : Type 0 where
  pub full : not_empty h.l_cre h.l_ann h.r_cre h.r_ann ≡ true
  pub modes : (p : ℕ) → bit left p ≡ branching h.l_cre h.l_ann h.r_cre h.r_ann p
  pub fit : 24 * 2 ^ ones left ≤ room
