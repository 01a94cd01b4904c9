-- The figures of all ranks counted into their shares, rank by rank.
use mathlib.Core.Path.{◌≡◌}
use mathlib.Core.Bool.{true}
use mathlib.Core.List.{List}
use Prim.Native.Nat.{ℕ, ◌+◌, ◌*◌, ◌≤◌, ◌<◌}
use native.Mathlib.Omega.{arith}
use lib.ListN.{length, get_or}
use Rattle.report.specs.Reports.{share_in, report_in, within, grow}
use Rattle.report.specs.Steps.{Mergeable}
use Rattle.report.proofs.Limits.{rank_within}

-- the ranks below r are counted, in k, and the others are as they were, in l
pub record Merging (terms weights l k : List ℕ) (r : ℕ) : Type 0 where
  pub size : length k ≡ length l
  pub first : (i : ℕ) → i < 6 → get_or k i 0 ≡ get_or l i 0
  pub done : (q : ℕ) → q < r → share_in k (6 + 3 * q) ≡ grow (get_or terms q 0) (get_or weights q 0) (share_in l (6 + 3 * q))
  pub left : (q : ℕ) → r ≤ q → share_in k (6 + 3 * q) ≡ share_in l (6 + 3 * q)

-- the next share may grow
module _ (terms weights l k : List ℕ) (r : ℕ) (m : Merging terms weights l k r) (a : Mergeable l terms weights) (h : r < 65) where
  pub share_inside : 6 + 3 * r + 2 < length k
  share_inside = omega (arith, m.size, a.size)

  pub share_within : within (share_in k (6 + 3 * r)) ≡ true
  share_within = rw (m.left r (omega arith)) (rank_within (report_in l).rank 65 r a.room h)
