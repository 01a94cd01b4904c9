-- The tally of a record's terms. For inner functions only.
use Rattle.std.specs.Prelude.{◌≡◌, ℕ, ◌<◌, List, length, replicate, slice_index, Result, Ok}
use Rattle.modes.specs.declared.Term.{Term}
use Rattle.record.specs.Terms.{weight}
use Rattle.record.specs.Layout.{terms_of}
use Rattle.record.specs.Refusals.{checked_of}
use Rattle.modes.specs.declared.Refusal.{Refusal}
use Rattle.record.specs.declared.Checked.{Checked}
use Rattle.tally.specs.Ranks.{of_rank}

-- a column before the first term
abbrev pub none_yet : List ℕ
none_yet = replicate 65 0

-- the terms and the weights of the ranks from 0 to 64
pub record Tallied (ts : List Term) (terms weights : List ℕ) : Type 0 where
  pub number : (r : ℕ) → r < 65 → slice_index terms r ≡ length (of_rank r ts)
  pub sum : (r : ℕ) → r < 65 → slice_index weights r ≡ weight (of_rank r ts)

-- the check of the bytes l, and where it accepts them the tally of their terms
pub record Tallies (l : List ℕ) (c : Result Checked Refusal) (terms weights : List ℕ) : Type 0 where
  pub checked : c ≡ checked_of 1 l
  pub tallied : (k : Checked) → c ≡ Ok k → Tallied (terms_of l) terms weights
