-- Each way out of a call leaves what its outcome says.
use mathlib.Core.Path.{◌≡◌, refl, ◌∙◌}
use mathlib.Core.List.{List, [], ◌++◌}
use Prim.Native.Nat.{ℕ, ◌+◌, ◌-◌, ◌≤◌, ◌<◌}
use native.Mathlib.Omega.{arith}
use lib.ListN.{length, take, drop, length-drop}
use lib.Seq.{take_at, length-take-le}
use borrow.Rule.Slice.PartMut.{mid_of}
use Rattle.std.specs.Prelude.{Result, Ok, Err}
use Rattle.modes.specs.declared.Refusal.{Refusal}
use Rattle.modes.specs.Answers.{none}
use Rattle.modes.proofs.Refusals.{unless_so, unless_not}
use Rattle.lent.specs.Bytes.{put, zeros}
use Rattle.lent.proofs.Puts.{length_put}
use Rattle.slots.specs.Half.{place_of, length_of, free_slot, gap_for, holding, without}
use Rattle.shelf.specs.Requests.{Request, Put, Get, Drop, Shelved, Slot, Length, Done, Outcome, unchanged, room_of, Leaves}
use Rattle.shelf.specs.Requests.{put_refusal, slot_refusal, get_refusal, record_in, on_half}
use Rattle.shelf.specs.Steps.{By, half_of, shelf_refusal, in_shelf, step}
use Rattle.shelf.proofs.Halves.{shelf_taken}
use Rattle.shelf.proofs.Refusals.{refusal_on}

-- what is refused leaves the bytes as they were, and zeros in the output
refused_leaves : (o : Outcome) (room : ℕ) (l : List ℕ) (r : Refusal) (x : Result Shelved Refusal) (out : List ℕ) → o ≡ unchanged room l r → x ≡ Err r
    → out ≡ zeros room → Leaves o x out l
refused_leaves o room l r x out e ex eo = rw e (record { answer = ex; output = eo; bytes = refl })

-- ---- a half

pub on_refused : (q : Request) (h : List ℕ) (r : Refusal) → refusal_on q h ≡ Err r → on_half q h ≡ unchanged (room_of q) h r
unfolding on_half
on_refused (Put a) h r e = unless_so (put_refusal h a) _ _ r e
on_refused (Get i room) h r e = unless_so (get_refusal h i room) _ _ r e
on_refused (Drop i) h r e = unless_so (slot_refusal h i) _ _ r e

pub half_refuses : (q : Request) (h : List ℕ) (r : Refusal) (x : Result Shelved Refusal) (out : List ℕ) → refusal_on q h ≡ Err r → x ≡ Err r
    → out ≡ zeros (room_of q)
    → Leaves (on_half q h) x out h
half_refuses q h r x out e ex eo = refused_leaves (on_half q h) (room_of q) h r x out (on_refused q h r e) ex eo

-- a record put, got and dropped
pub put_is : (h a : List ℕ) → put_refusal h a ≡ none
    → on_half (Put a) h ≡ record { answer = Ok (Slot (free_slot h)); output = []; bytes = holding h (free_slot h) (gap_for h (length a)) a }
unfolding on_half
put_is h a z = unless_not (put_refusal h a) _ _ z

pub get_is : (h : List ℕ) (i room : ℕ) → get_refusal h i room ≡ none
    → on_half (Get i room) h ≡ record { answer = Ok (Length (length_of h i)); output = record_in h i ++ zeros (room - length_of h i); bytes = h }
unfolding on_half
get_is h i room z = unless_not (get_refusal h i room) _ _ z

pub drop_is : (h : List ℕ) (i : ℕ) → slot_refusal h i ≡ none
    → on_half (Drop i) h ≡ record { answer = Ok Done; output = []; bytes = without h i (place_of h i) (length_of h i) }
unfolding on_half
drop_is h i z = unless_not (slot_refusal h i) _ _ z

pub put_leaves : (h a k : List ℕ) (i p : ℕ) → put_refusal h a ≡ none → i ≡ free_slot h → p ≡ gap_for h (length a) → k ≡ holding h i p a
    → Leaves (on_half (Put a) h) (Ok (Slot i)) [] k
put_leaves h a k i p z ei ep e = rw (put_is h a z, ← ei, ← ep) (record { answer = refl; output = refl; bytes = e })

pub drop_leaves : (h k : List ℕ) (i j p n : ℕ) → slot_refusal h i ≡ none → j ≡ i → p ≡ place_of h j → n ≡ length_of h j → k ≡ without h j p n
    → Leaves (on_half (Drop i) h) (Ok Done) [] k
drop_leaves h k i j p n z ej ep en e =
    rw (drop_is h i z, ← ej, ← ep, ← en) (record { answer = refl; output = refl; bytes = e })

-- n bytes copied to the front of an output, and zeros past them
copied : (out bs : List ℕ) (n : ℕ) → length bs ≡ n → n ≤ length out → take n (put out 0 bs) ++ zeros (length (put out 0 bs) - n) ≡ bs ++ zeros (length out - n)
unfolding put
copied out bs n size fits =
    let whole : length (bs ++ drop (0 + length bs) out) ≡ length out = length_put out 0 bs (omega arith) in
    rw (whole, take_at bs (drop (0 + length bs) out) n size)

pub get_leaves : (h out l : List ℕ) (i p n : ℕ) → get_refusal h i (length out) ≡ none → p + n ≤ length h → p ≡ place_of h i → n ≡ length_of h i
    → n ≤ length out → l ≡ put out 0 (mid_of p (p + n - p) h) → (k : List ℕ) → k ≡ take n l ++ zeros (length l - n)
    → Leaves (on_half (Get i (length out)) h) (Ok (Length n)) k h
get_leaves h out l i p n z inside ep en fits el k ek =
    rw (get_is h i (length out) z, ← ep, ← en) (record { answer = refl; output = whole; bytes = refl })
  where
    part : mid_of p (p + n - p) h ≡ take n (drop p h)
    part = let e : p + n - p ≡ n = omega arith in rw e

    size : length (take n (drop p h)) ≡ n
    size = length-take-le n (drop p h) (rw length-drop (omega arith))

    whole : k ≡ take n (drop p h) ++ zeros (length out - n)
    whole = ek ∙ rw (el, part) (copied out (take n (drop p h)) n size fits)

-- ---- the shelf

pub step_refused : (p : ℕ) (q : Request) (s : List ℕ) (r : Refusal) → shelf_refusal p (length s) ≡ Err r
    → step (By p q) s ≡ unchanged (room_of q) s r
unfolding step
step_refused p q s r e = unless_so (shelf_refusal p (length s)) _ _ r e

pub step_taken : (p : ℕ) (q : Request) (s : List ℕ) → p < 2 → length s ≡ 65536 → step (By p q) s ≡ in_shelf p s (on_half q (half_of p s))
unfolding step
step_taken p q s l size = unless_not (shelf_refusal p (length s)) _ _ (shelf_taken p (length s) l size)

pub shelf_refuses : (p : ℕ) (q : Request) (s : List ℕ) (r : Refusal) (x : Result Shelved Refusal) (out : List ℕ) → shelf_refusal p (length s) ≡ Err r
    → x ≡ Err r → out ≡ zeros (room_of q) → Leaves (step (By p q) s) x out s
shelf_refuses p q s r x out e ex eo = refused_leaves _ (room_of q) s r x out (step_refused p q s r e) ex eo
