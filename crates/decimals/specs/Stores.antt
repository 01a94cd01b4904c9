-- Text stored in lent bytes. For inner functions only.
use Rattle.std.specs.Prelude.{◌≡◌, List, ℕ, ◌+◌, length}
use Rattle.lent.specs.Bytes.{put}

-- the text stands in m from `at` to `end`, and all else is as in l
pub record Stored (l : List ℕ) (at : ℕ) (text m : List ℕ) (end : ℕ) : Type 0 where
  pub bytes : m ≡ put l at text
  pub ends : end ≡ at + length text
