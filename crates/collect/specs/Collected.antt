-- What is left of n rows at the front of the bytes l: k rows at the front of m, the normal form of the n rows. For inner functions only.
use Rattle.std.specs.Prelude.{◌≡◌, List, ℕ, ◌*◌, ◌≤◌, length, drop}
use Rattle.modes.specs.Every.{Every}
use Rattle.lent.specs.Rows.{Fit, rows_at}
use Rattle.normal.specs.Normal.{normal}

pub record Collected (n : ℕ) (l m : List ℕ) (k : ℕ) : Type 0 where
  pub count : k ≤ n
  pub len : length m ≡ length l
  pub past : drop (24 * n) m ≡ drop (24 * n) l
  pub rows : rows_at m 0 k ≡ normal (rows_at l 0 n)
  pub fit : Every Fit (rows_at m 0 k)
