-- Where a party's half of a shelf begins, a slot that is used, and a record that may be placed. For inner functions only.
use Rattle.std.specs.Prelude.{◌≡◌, ℕ, ◌*◌, true, List, length, Result}
use Rattle.modes.specs.declared.Refusal.{Refusal}
use Rattle.modes.specs.Answers.{none}
use Rattle.modes.specs.Refusals.{answered}
use Rattle.record.specs.Refusals.{refusal_of}
use Rattle.slots.specs.Half.{is_whole}
use Rattle.shelf.specs.Requests.{slot_refusal}
use Rattle.shelf.specs.Steps.{shelf_refusal}

-- the first byte of party p's half, of a shelf of so many bytes, or what refuses it
abbrev pub start_of : ℕ → ℕ → Result ℕ Refusal
start_of p size = answered (shelf_refusal p size) (32768 * p)

-- slot i, or what refuses it
abbrev pub used_slot : List ℕ → ℕ → Result ℕ Refusal
used_slot h i = answered (slot_refusal h i) i

-- the half has its length and is not damaged, and the record is accepted
pub record Placeable (h a : List ℕ) : Type 0 where
  pub size : length h ≡ 32768
  pub whole : is_whole h ≡ true
  pub accepted : refusal_of 1 a ≡ none
