-- The rows that are left are the operator that the rows at entry were.
use mathlib.Core.Path.{◌≡◌, ap, ◌∙◌}
use mathlib.Core.List.{List}
use Prim.Native.Nat.{ℕ}
use Rattle.lent.specs.Rows.{rows_at}
use Rattle.products.specs.Operators.{element}
use Rattle.normal.proofs.Totals.{element_normal}
use Rattle.collect.specs.Collected.{Collected}

pub collected_elements : (n : ℕ) (l m : List ℕ) (k : ℕ) → Collected n l m k → (bra ket : ℕ) → element bra ket (rows_at m 0 k) ≡ element bra ket (rows_at l 0 n)
collected_elements n l m k c bra ket = ap (element bra ket) c.rows ∙ element_normal bra ket (rows_at l 0 n)
