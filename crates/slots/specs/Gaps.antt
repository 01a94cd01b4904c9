-- What lies in the gaps of a half, and where a gap starts.
use Rattle.std.specs.Prelude.{◌≡◌, false, ◌⊎◌, List, ℕ, ◌+◌, ◌≤◌, ◌<◌, get_or}
use Rattle.slots.specs.Half.{place_of, length_of, is_free, apart}

-- byte k stands before n bytes from p on, or past them
abbrev pub Outside : ℕ → ℕ → ℕ → Type 0
Outside k p n = (k < p) ⊎ (p + n ≤ k)

-- it is in no used slot's record
abbrev pub InNone : List ℕ → ℕ → Type 0
InNone h k = (i : ℕ) → i < 16 → is_free h i ≡ false → Outside k (place_of h i) (length_of h i)

-- every such byte past the entries is zero
pub record Clean (h : List ℕ) : Type 0 where
  pub zero : (k : ℕ) → 512 ≤ k → k < 32768 → InNone h k → get_or h k 0 ≡ 0

-- slot i is used, and its record ends at p
pub record Ends (h : List ℕ) (p i : ℕ) : Type 0 where
  pub slot : i < 16
  pub used : is_free h i ≡ false
  pub ends : place_of h i + length_of h i ≡ p

-- p is where the entries end, or where some record ends
abbrev pub Starts : List ℕ → ℕ → Type 0
Starts h p = (p ≡ 512) ⊎ ((i : ℕ) × Ends h p i)

-- a record that ends at e meets n bytes from p on
pub record Met (h : List ℕ) (p n e : ℕ) : Type 0 where
  pub slot : ℕ
  pub low : slot < 16
  pub meets : apart (place_of h slot) (length_of h slot) p n ≡ false
  pub ends : place_of h slot + length_of h slot ≡ e
