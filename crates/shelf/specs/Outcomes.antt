-- What the theorems say of outcomes: 20 and 21, where a record is put, what is got, and what a drop leaves.
use Rattle.std.specs.Prelude.{◌≡◌, true, false, List, ◌++◌, ℕ, ◌*◌, ◌-◌, ◌<◌, length, get_or, take, drop, Result, Ok, Err}
use Rattle.modes.specs.declared.Refusal.{Refusal}
use Rattle.modes.specs.Answers.{none, number_in}
use Rattle.lent.specs.Bytes.{zeros}
use Rattle.record.specs.Refusals.{refusal_of}
use Rattle.slots.specs.Half.{place_of, length_of, is_free, is_whole, is_room}
use Rattle.slots.specs.Gaps.{Outside, Starts}
use Rattle.shelf.specs.Requests.{Shelved, Slot, Length, Done, Outcome, record_in}
use Rattle.shelf.specs.Steps.{half_of}

-- the number of what refuses a call, and 0 where nothing does
abbrev pub number_of : Outcome → ℕ
number_of o = number_in o.answer

-- the slot that a put names, and 0 where none is named
abbrev pub slot_in : Result Shelved Refusal → ℕ
slot_in (Ok (Slot i)) = i
slot_in (Ok (Length n)) = 0
slot_in (Ok Done) = 0
slot_in (Err r) = 0

-- nothing that comes before 20 and 21 refuses a put: there is such a party, the shelf has its length, the half is not damaged and the record is accepted
pub record Ready (p : ℕ) (s a : List ℕ) : Type 0 where
  pub party : p < 2
  pub size : length s ≡ 65536
  pub whole : is_whole (half_of p s) ≡ true
  pub accepted : refusal_of 1 a ≡ none

-- all 16 slots are used
pub record Full (p : ℕ) (s a : List ℕ) : Type 0 where
  pub ready : Ready p s a
  pub used : (i : ℕ) → i < 16 → is_free (half_of p s) i ≡ false

-- some slot is free, and no place has room
pub record Crowded (p : ℕ) (s a : List ℕ) : Type 0 where
  pub ready : Ready p s a
  pub slot : ℕ
  pub low : slot < 16
  pub free : is_free (half_of p s) slot ≡ true
  pub none : (q : ℕ) → is_room (half_of p s) (length a) q ≡ false

-- in h slot i is free and each below it is used; in h' it names the bytes a, at the lowest place with room for them in h, which is the start of a gap;
-- and every other byte is as it was
pub record Placed (h h' : List ℕ) (i : ℕ) (a : List ℕ) : Type 0 where
  pub slot : i < 16
  pub free : is_free h i ≡ true
  pub below : (j : ℕ) → j < i → is_free h j ≡ false
  pub room : is_room h (length a) (place_of h' i) ≡ true
  pub before : (q : ℕ) → q < place_of h' i → is_room h (length a) q ≡ false
  pub starts : Starts h (place_of h' i)
  pub long : length_of h' i ≡ length a
  pub stands : record_in h' i ≡ a
  pub others : (k : ℕ) → Outside k (place_of h' i) (length a) → Outside k (32 * i) 32 → get_or h' k 0 ≡ get_or h k 0

-- what a get of the bytes a gives: their length, a copy with zeros past it, and the shelf as it was
abbrev pub gotten : List ℕ → ℕ → List ℕ → Outcome
gotten a room s = record { answer = Ok (Length (length a)); output = a ++ zeros (room - length a); bytes = s }

-- slot i was used; zeros stand where its record and its entry stood, every other byte of the half is as it was, and the slot is free
pub record Dropped (h h' : List ℕ) (i : ℕ) : Type 0 where
  pub slot : i < 16
  pub used : is_free h i ≡ false
  pub bytes : take (length_of h i) (drop (place_of h i) h') ≡ zeros (length_of h i)
  pub entry : take 32 (drop (32 * i) h') ≡ zeros 32
  pub others : (k : ℕ) → Outside k (place_of h i) (length_of h i) → Outside k (32 * i) 32 → get_or h' k 0 ≡ get_or h k 0
  pub free : is_free h' i ≡ true
