-- The answer is fixed by what the rows at entry make: how many rows are left, and which.
use mathlib.Core.Path.{◌≡◌, sym, ap, ◌∙◌}
use mathlib.Core.List.{List}
use Prim.Native.Nat.{ℕ}
use lib.ListN.{length}
use Rattle.lent.specs.Rows.{rows_at}
use Rattle.lent.proofs.RowLaws.{length_rows_at}
use Rattle.record.specs.Coefficients.{coeff_of}
use Rattle.normal.proofs.Normal.{normal_same}
use Rattle.collect.specs.Collected.{Collected}

-- two answers to rows that make the same are the same
pub collected_unique : (n n2 : ℕ) (l l2 m m2 : List ℕ) (k k2 : ℕ) → Collected n l m k → Collected n2 l2 m2 k2
    → ((cre ann : ℕ) → coeff_of cre ann (rows_at l 0 n) ≡ coeff_of cre ann (rows_at l2 0 n2)) → (k ≡ k2) × (rows_at m 0 k ≡ rows_at m2 0 k2)
collected_unique n n2 l l2 m m2 k k2 c c2 e =
    let rows = c.rows ∙ normal_same (rows_at l 0 n) (rows_at l2 0 n2) e ∙ sym c2.rows in
    (sym (length_rows_at m 0 k) ∙ ap length rows ∙ length_rows_at m2 0 k2, rows)
