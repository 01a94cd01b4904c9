-- All lists have n entries. For inner functions only.
use Rattle.std.specs.Prelude.{◌≡◌, List, ℕ, length, Float}

pub record OneLength (n : ℕ) (ann : List ℕ) (re im : List Float) : Type 0 where
  pub anns : length ann ≡ n
  pub res : length re ≡ n
  pub ims : length im ≡ n
