-- A half that is not damaged, in the document's words.
use Rattle.std.specs.Prelude.{◌≡◌, false, ◌⊎◌, List, ℕ, ◌+◌, ◌*◌, ◌≤◌, ◌<◌}
use Rattle.lent.specs.Bytes.{num_at}
use Rattle.slots.specs.Half.{place_of, length_of, is_free}

-- n bytes from p on end before m bytes from q on begin, or the other way round
abbrev pub Beside : ℕ → ℕ → ℕ → ℕ → Type 0
Beside p n q m = (p + n ≤ q) ⊎ (q + m ≤ p)

-- what a used entry keeps
pub record Sound (h : List ℕ) (i : ℕ) : Type 0 where
  pub long : 32 ≤ length_of h i
  pub past : 512 ≤ place_of h i
  pub inside : place_of h i + length_of h i ≤ 32768
  pub zero : num_at 24 h (32 * i + 8) ≡ 0

-- the records of the slots i and j do not meet
abbrev pub Parted : List ℕ → ℕ → ℕ → Type 0
Parted h i j = Beside (place_of h i) (length_of h i) (place_of h j) (length_of h j)

-- each used entry is sound, and no two slots' records meet
pub record Undamaged (h : List ℕ) : Type 0 where
  pub right : (i : ℕ) → i < 16 → is_free h i ≡ false → Sound h i
  pub apart : (i j : ℕ) → i < 16 → j < 16 → (i ≡ j → ⊥) → Parted h i j
