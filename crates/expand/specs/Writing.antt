-- A line's rows as the code writes them, from a byte of the line on. For inner functions only.
use Rattle.std.specs.Prelude.{◌≡◌, true, List, map, ℕ, ◌+◌, ◌-◌, ◌*◌, ◌^◌, ◌≤◌, ◌<◌, nat_abs, length, take, drop}
use Rattle.modes.specs.declared.Term.{Term}
use Rattle.lent.specs.Bytes.{put}
use Rattle.lent.specs.Rows.{rows_bytes}
use Rattle.products.specs.declared.ProductHelper.{ProductHelper}
use Rattle.lines.specs.Grammar.{Ladder, space, ladder_of, line_of}
use Rattle.lines.specs.Refusals.{all_below}
use Rattle.lines.specs.Reading.{rest}
use Rattle.expand.specs.Rows.{creation, annihilation}

-- the words of a term and of a ladder on its right
abbrev pub helper_of : Term → Ladder → ProductHelper
helper_of t x = record { l_cre = t.cre; l_ann = t.ann; r_cre = creation x; r_ann = annihilation x }

-- the ladder in the bytes from `from` to `end`
abbrev pub ladder_in : List ℕ → ℕ → ℕ → Ladder
ladder_in line from end = ladder_of (take (end - from) (drop from line))

-- the ladders after byte `at`, where a field ends
abbrev pub ladders_from : List ℕ → ℕ → List Ladder
ladders_from line at = map ladder_of (rest space (drop at line))

-- the rows of t and these ladders can be written from byte `used` of the work on
pub record Writable (line : List ℕ) (at : ℕ) (t : Term) (work used : ℕ) : Type 0 where
  pub here : at ≤ length line
  pub inside : all_below 64 (ladders_from line at) ≡ true
  pub room : used + 24 * 2 ^ length (rest space (drop at line)) ≤ work
  pub small : nat_abs t.coeff < 2 ^ 63

-- the rows ts are written from byte `used` of the work on, and end at `end`
abbrev pub Wrote : List ℕ → ℕ → List Term → ℕ → List ℕ → Type 0
Wrote before used ts end after = (end ≡ used + 24 * length ts) × (after ≡ put before used (rows_bytes ts))

-- the rows of a whole line can be written from byte `used` of the work on
pub record LineWritable (line : List ℕ) (work used : ℕ) : Type 0 where
  pub inside : all_below 64 (line_of line).ladders ≡ true
  pub light : nat_abs (line_of line).coeff ≤ 2 ^ 60
  pub room : used + 24 * 2 ^ length (line_of line).ladders ≤ work
