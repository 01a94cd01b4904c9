-- What the steps of a count leave. For inner functions only.
use Rattle.std.specs.Prelude.{ℕ, ◌+◌, ◌*◌, ◌^◌, ◌≤◌, ◌<◌, max, ◌≡◌, true, List, length, get_or}
use Rattle.record.specs.declared.Checked.{Checked}
use Rattle.report.specs.Reports.{share_in, report_in, all_within, is_open, grow}

-- the share at p has n terms more, of the weight w, and all other numbers are as they were
pub record Grown (p n w : ℕ) (l k : List ℕ) : Type 0 where
  pub size : length k ≡ length l
  pub share : share_in k p ≡ grow n w (share_in l p)
  pub below : (i : ℕ) → i < p → get_or k i 0 ≡ get_or l i 0
  pub above : (i : ℕ) → p + 2 < i → get_or k i 0 ≡ get_or l i 0

-- figures of each rank that a share within its limits has room for; without terms there is no weight
pub record Light (terms weights : List ℕ) : Type 0 where
  pub few : (r : ℕ) → r < 65 → get_or terms r 0 ≤ 2 ^ 21
  pub light : (r : ℕ) → r < 65 → get_or weights r 0 ≤ 2 ^ 60
  pub empty : (r : ℕ) → r < 65 → get_or terms r 0 ≡ 0 → get_or weights r 0 ≡ 0

-- the shares of all ranks have room for them
pub record Mergeable (l terms weights : List ℕ) : Type 0 where
  pub size : length l ≡ 201
  pub room : all_within (report_in l).rank 65 ≡ true
  pub figures : Light terms weights

-- the shares of the ranks have grown by a tally, and the first six numbers are as they were
pub record Merged (terms weights l k : List ℕ) : Type 0 where
  pub size : length k ≡ length l
  pub first : (i : ℕ) → i < 6 → get_or k i 0 ≡ get_or l i 0
  pub ranks : (r : ℕ) → r < 65 → share_in k (6 + 3 * r) ≡ grow (get_or terms r 0) (get_or weights r 0) (share_in l (6 + 3 * r))

-- a record, of which the check found c, may be counted with its tally into the report l: this is open, and its shares have room
pub record Countable (l : List ℕ) (c : Checked) (terms weights : List ℕ) : Type 0 where
  pub size : length l ≡ 201
  pub opened : is_open (report_in l) ≡ true
  pub few : c.terms ≤ 2 ^ 21
  pub light : c.weight ≤ 2 ^ 60
  pub empty : c.terms ≡ 0 → c.weight ≡ 0
  pub figures : Light terms weights

-- it is counted
pub record AcceptedIn (c : Checked) (terms weights l k : List ℕ) : Type 0 where
  pub size : length k ≡ length l
  pub accepted : get_or k 0 0 ≡ get_or l 0 0 + 1
  pub refused : get_or k 1 0 ≡ get_or l 1 0
  pub total : share_in k 2 ≡ grow c.terms c.weight (share_in l 2)
  pub largest : get_or k 5 0 ≡ max (get_or l 5 0) c.weight
  pub ranks : (r : ℕ) → r < 65 → share_in k (6 + 3 * r) ≡ grow (get_or terms r 0) (get_or weights r 0) (share_in l (6 + 3 * r))
