-- What the steps of the joining leave. For inner functions only.
use Rattle.std.specs.Prelude.{◌≡◌, List, [], ◌∷◌, ◌++◌, ℕ, ◌+◌, ◌*◌, ◌≤◌, ◌<◌, pos, length, drop}
use Rattle.modes.specs.declared.Term.{Term}
use Rattle.lent.specs.Rows.{Fit, row_at, rows_at}
use Rattle.places.specs.Order.{key}
use Rattle.products.specs.Product.{Other}
use Rattle.record.specs.Canonical.{Nonzero}
use Rattle.normal.specs.Normal.{join}

-- no row is above the next, so like rows stand side by side
abbrev pub InOrder : List ℕ → ℕ → Type 0
InOrder l n = (k : ℕ) → k + 1 < n → key (row_at l (24 * k)) ≤ key (row_at l (24 * (k + 1)))

-- us is ts with x at its end, unless the coefficient of x is 0
pub data Ended (ts : List Term) (x : Term) (us : List Term) : Type 0 where
  dropped : x.coeff ≡ pos 0 → us ≡ ts → Ended ts x us
  stored : Nonzero x → us ≡ ts ++ (x ∷ []) → Ended ts x us

-- the rows of l before p are done, and r rows of m are after x is closed; nothing past p is written
pub record Closed (p : ℕ) (x : Term) (l m : List ℕ) (r : ℕ) : Type 0 where
  pub count : r ≤ p + 1
  pub len : length m ≡ length l
  pub ahead : drop (24 * p + 24) m ≡ drop (24 * p + 24) l
  pub rows : Ended (rows_at l 0 p) x (rows_at m 0 r)

-- the row y meets the row x in hand, and z is in hand then
pub data Met (p : ℕ) (x y : Term) (l m : List ℕ) (q : ℕ) (z : Term) : Type 0 where
  joined : y.ann ≡ x.ann → y.cre ≡ x.cre → m ≡ l → q ≡ p → z ≡ join x y → Met p x y l m q z
  opened : Other y x → Closed p x l m q → z ≡ y → Fit y → Met p x y l m q z
