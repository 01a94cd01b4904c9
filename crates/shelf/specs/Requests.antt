-- What a party asks of its half of a shelf: what refuses it, what it answers, and the bytes that it leaves.
use Rattle.std.specs.Prelude.{◌≡◌, ℕ, ◌-◌, ◌&&◌, not, List, [], ◌++◌, leb, ltb, length, take, drop, Result, Ok, Err}
use Rattle.modes.specs.declared.Reason.TheVariants.{NoSuchParty, DamagedHalf, NoFreeSlot, NoGap, NoSuchSlot}
use Rattle.modes.specs.declared.Refusal.{Refusal}
use Rattle.modes.specs.Answers.{Verdict, refusal, output_too_short}
use Rattle.modes.specs.Refusals.{need, or_else, unless}
use Rattle.lent.specs.Bytes.{zeros}
use Rattle.record.specs.Refusals.{refusal_of}
use Rattle.slots.specs.Half.{place_of, length_of, is_free, is_whole, free_slot, gap_for, holding, without}

-- a record to be put; a slot to be got, with the length of the output that is lent; a slot to be dropped
pub data Request : Type 0 where
  Put : List ℕ → Request
  Get : ℕ → ℕ → Request
  Drop : ℕ → Request

-- what a call comes back with that is not refused: a put with its slot, a get with the length of the copy, a drop and a clear with nothing more
pub data Shelved : Type 0 where
  Slot : ℕ → Shelved
  Length : ℕ → Shelved
  Done : Shelved

-- a call's answer as an outcome has it: of its value x, if it is not refused, `told x`
abbrev pub tells : {A : Type 0} → (A → Shelved) → Result A Refusal → Result Shelved Refusal
tells told (Ok x) = Ok (told x)
tells told (Err r) = Err r

abbrev pub no_such_party : Refusal
no_such_party = refusal NoSuchParty 0 0

abbrev pub damaged_half : Refusal
damaged_half = refusal DamagedHalf 0 0

abbrev pub no_free_slot : Refusal
no_free_slot = refusal NoFreeSlot 0 0

abbrev pub no_gap : Refusal
no_gap = refusal NoGap 0 0

abbrev pub no_such_slot : Refusal
no_such_slot = refusal NoSuchSlot 0 0

-- a call's answer, its whole output, and all bytes of the half, or of the shelf, after it
pub record Outcome : Type 0 where
  pub answer : Result Shelved Refusal
  pub output : List ℕ
  pub bytes : List ℕ

-- refused: the output, of room bytes, is all zero, and no byte is changed
abbrev pub unchanged : ℕ → List ℕ → Refusal → Outcome
unchanged room h r = record { answer = Err r; output = zeros room; bytes = h }

-- put: 19, the record's 1 to 5, 20, 21; then the record stands in the lowest gap long enough, named by the lowest free slot
unfoldable pub put_refusal : List ℕ → List ℕ → Verdict
put_refusal h a =
    or_else (need (is_whole h) damaged_half)
    (or_else (refusal_of 1 a) (or_else (need (ltb (free_slot h) 16) no_free_slot) (need (ltb (gap_for h (length a)) 32768) no_gap)))

abbrev pub put_of : List ℕ → List ℕ → Outcome
put_of a h =
    unless (put_refusal h a) (unchanged 0 h) (record {
      answer = Ok (Slot (free_slot h));
      output = [];
      bytes = holding h (free_slot h) (gap_for h (length a)) a;
    })

-- 19, then 22, of a slot that is not one of the 16 or is free
unfoldable pub slot_refusal : List ℕ → ℕ → Verdict
slot_refusal h i = or_else (need (is_whole h) damaged_half) (need (ltb i 16 && not (is_free h i)) no_such_slot)

-- the bytes that slot i's entry names
abbrev pub record_in : List ℕ → ℕ → List ℕ
record_in h i = take (length_of h i) (drop (place_of h i) h)

-- get: 19, 22, 11; then the output holds a copy, with zeros past it
unfoldable pub get_refusal : List ℕ → ℕ → ℕ → Verdict
get_refusal h i room = or_else (slot_refusal h i) (need (leb (length_of h i) room) output_too_short)

abbrev pub get_of : ℕ → ℕ → List ℕ → Outcome
get_of i room h =
    unless (get_refusal h i room) (unchanged room h) (record {
      answer = Ok (Length (length_of h i));
      output = record_in h i ++ zeros (room - length_of h i);
      bytes = h;
    })

-- drop: 19, 22; then record and entry are zero
abbrev pub drop_of : ℕ → List ℕ → Outcome
drop_of i h =
    unless (slot_refusal h i) (unchanged 0 h) (record {
      answer = Ok Done;
      output = [];
      bytes = without h i (place_of h i) (length_of h i);
    })

-- what a request makes of a half
unfoldable pub on_half : Request → List ℕ → Outcome
on_half (Put a) h = put_of a h
on_half (Get i room) h = get_of i room h
on_half (Drop i) h = drop_of i h

-- how long an output is lent with it
abbrev pub room_of : Request → ℕ
room_of (Put a) = 0
room_of (Get i room) = room
room_of (Drop i) = 0

-- an answer, an output and the bytes after a call are those of the outcome
pub record Leaves (o : Outcome) (r : Result Shelved Refusal) (out after : List ℕ) : Type 0 where
  pub answer : r ≡ o.answer
  pub output : out ≡ o.output
  pub bytes : after ≡ o.bytes
