-- Any calls of the two parties on one shelf, of any bytes.
use mathlib.Core.Path.{◌≡◌, refl, sym, ap, ◌∙◌}
use mathlib.Core.Bool.{true, true≢false}
use mathlib.Core.List.{List, [], ◌∷◌}
use Prim.Native.Nat.{ℕ, zero, suc, ◌≤◌, ◌<◌}
use native.Mathlib.Omega.{arith}
use lib.ListN.{length}
use Rattle.modes.specs.declared.Refusal.{Refusal}
use Rattle.std.specs.Prelude.{Ok, Err}
use Rattle.modes.specs.Answers.{none}
use Rattle.modes.specs.Every.{Every, none as nothing, more}
use Rattle.lent.specs.Bytes.{zeros}
use Rattle.slots.specs.Half.{length_of, is_whole, free_slot, gap_for}
use Rattle.slots.proofs.Wholes.{slot_free, room_so, gap_room}
use Rattle.slots.proofs.Kept.{byte_same, bytes_here, entry_here, held_place, dropped_free, zeros_whole}
use Rattle.slots.proofs.Lowest.{slots_below, none_free, all_used, some_free, rooms_below, no_room, no_gap_is, gap_starts}
use Rattle.slots.specs.Gaps.{Clean}
use Rattle.slots.proofs.Clean.{zeros_clean}
use Rattle.shelf.specs.Requests.{Request, Put, Get, Drop, Slot, Length, Done, Outcome, no_such_party, no_free_slot, no_gap, unchanged, room_of, put_refusal, on_half}
use Rattle.shelf.specs.Steps.{Call, Clear, By, half_of, shelf_refusal, step}
use Rattle.shelf.specs.Outcomes.{number_of, slot_in, gotten, Ready, Full, Crowded, Placed, Dropped}
use Rattle.shelf.specs.Placing.{Placeable}
use Rattle.shelf.specs.Runs.{run, after_all, Whole, spares}
use Rattle.shelf.proofs.Halves.{half_size, half_zeros, put_same, taken_shelf}
use Rattle.shelf.proofs.Refusals.{refusal_on, no_party, slot_used, placed_long, put_full, put_crowded}
use Rattle.shelf.proofs.Answering.{on_refused, step_refused, step_taken}
use Rattle.shelf.proofs.Told.{one_refuses, heard, unrefused, refused, step_undamaged}
use Rattle.shelf.proofs.Numbers.{twenty, twenty_one}
use Rattle.shelf.proofs.OnHalf.{accepted_put, put_change, get_keeps, drop_change, whole_kept, clean_kept}
use Rattle.shelf.proofs.Held.{Held, put_held, held_on, get_held}
use Rattle.shelf.proofs.TwoRuns.{either_step, step_length, own_half, half_left}

-- ---- calls that change nothing

-- what the half refuses, the shelf refuses, as it was
half_refused : (p : ℕ) (q : Request) (s : List ℕ) (r : Refusal) → p < 2 → length s ≡ 65536 → refusal_on q (half_of p s) ≡ Err r
    → step (By p q) s ≡ unchanged (room_of q) s r
half_refused p q s r low size e = step_taken p q s low size ∙ rw (on_refused q (half_of p s) r e, put_same p s low size)

-- REFUSED: a call that is refused changes no byte of the shelf, of any length, and leaves zeros alone in its output
pub refused_unchanged : (p : ℕ) (q : Request) (s : List ℕ) (r : Refusal) → (step (By p q) s).answer ≡ Err r → step (By p q) s ≡ unchanged (room_of q) s r
refused_unchanged p q s r e =
    one_refuses (shelf_refusal p (length s)) (refusal_on q (half_of p s)) r (refused p q s r e) (step_refused p q s r)
    (λ z y. let (low, size) = taken_shelf p (length s) z in half_refused p q s r low size y)

-- NO THIRD PARTY: whoever else asks is refused with 18
pub no_third : (p : ℕ) (q : Request) (s : List ℕ) → 2 ≤ p → step (By p q) s ≡ unchanged (room_of q) s no_such_party
no_third p q s l = step_refused p q s no_such_party (no_party p (length s) l)

-- A GET changes no byte either
pub get_unchanged : (p i room : ℕ) (s : List ℕ) → (step (By p (Get i room)) s).bytes ≡ s
get_unchanged p i room s =
    either_step p (Get i room) s (λ o. o.bytes ≡ s) (λ low size. rw (get_keeps i room (half_of p s)) (put_same p s low size)) (λ _ _. refl)

-- ---- no call damages a shelf

-- what a clear leaves of a half
cleared_half : (p : ℕ) (s : List ℕ) → p < 2 → length s ≡ 65536 → half_of p (step Clear s).bytes ≡ zeros 32768
unfolding step
cleared_half p s low size = half_zeros p (length s) low size

-- A CLEAR makes any shelf of 65,536 bytes whole
pub cleared_whole : (s : List ℕ) → length s ≡ 65536 → Whole (step Clear s).bytes
cleared_whole s size =
    record {
      size = step_length Clear s ∙ size;
      lower = rw (cleared_half 0 s (omega arith) size) (zeros_whole 32768);
      upper = rw (cleared_half 1 s (omega arith) size) (zeros_whole 32768);
    }

-- EVERY CALL leaves a whole shelf whole
pub whole_shelf : (c : Call) (s : List ℕ) → Whole s → Whole (step c s).bytes
whole_shelf Clear s w = cleared_whole s w.size
whole_shelf (By p q) s w =
    record {
      size = step_length (By p q) s ∙ w.size;
      lower = half_left (λ h. is_whole h ≡ true) 0 p q s (λ own size. whole_kept q (half_of 0 s) size w.lower) w.lower;
      upper = half_left (λ h. is_whole h ≡ true) 1 p q s (λ own size. whole_kept q (half_of 1 s) size w.upper) w.upper;
    }

pub whole_after : (cs : List Call) (s : List ℕ) → Whole s → Whole (after_all s cs)
unfolding after_all
whole_after [] s w = w
whole_after (c ∷ cs) s w = whole_after cs (step c s).bytes (whole_shelf c s w)

whole_half : (p : ℕ) (s : List ℕ) → Whole s → p < 2 → is_whole (half_of p s) ≡ true
whole_half zero s w l = w.lower
whole_half (suc zero) s w l = w.upper
whole_half (suc (suc p)) s w l = absurd (omega arith)

-- a clear refuses nothing
clear_tells : (s : List ℕ) → number_of (step Clear s) ≡ 19 → ⊥
unfolding step
clear_tells s e = omega arith

-- 19 is not told of a whole shelf
undamaged : (c : Call) (s : List ℕ) → Whole s → number_of (step c s) ≡ 19 → ⊥
undamaged Clear s w = clear_tells s
undamaged (By p q) s w = step_undamaged p q s w.size (whole_half p s w)

-- nor of what calls make of it
pub whole_run : (cs : List Call) (s : List ℕ) → Whole s → Every (λ o. number_of o ≡ 19 → ⊥) (run s cs)
unfolding run
whole_run [] s w = nothing
whole_run (c ∷ cs) s w = more (undamaged c s w) (whole_run cs (step c s).bytes (whole_shelf c s w))

-- NEVER DAMAGED: from a clear of 65,536 bytes on, 19 is never told, whatever they were and whatever the calls
pub never_damaged : (s : List ℕ) (cs : List Call) → length s ≡ 65536 → Every (λ o. number_of o ≡ 19 → ⊥) (run s (Clear ∷ cs))
unfolding run
never_damaged s cs size = more (clear_tells s) (whole_run cs (step Clear s).bytes (cleared_whole s size))

-- ---- what is put is got

-- slot i of party p holds the bytes a, on a shelf of 65,536 bytes
pub record Holds (p i : ℕ) (a s : List ℕ) : Type 0 where
  pub party : p < 2
  pub size : length s ≡ 65536
  pub held : Held (half_of p s) i a

-- WHAT IS ANSWERED, where nothing refuses: by a put the lowest free slot, by a get the length of what the slot holds, by a drop nothing more
pub put_tells : (p : ℕ) (a s : List ℕ) → number_of (step (By p (Put a)) s) ≡ 0 → (step (By p (Put a)) s).answer ≡ Ok (Slot (free_slot (half_of p s)))
put_tells p a s ok = (unrefused p (Put a) s ok).tells

pub get_tells : (p i room : ℕ) (s : List ℕ) → number_of (step (By p (Get i room)) s) ≡ 0
    → (step (By p (Get i room)) s).answer ≡ Ok (Length (length_of (half_of p s) i))
get_tells p i room s ok = (unrefused p (Get i room) s ok).tells

pub drop_tells : (p i : ℕ) (s : List ℕ) → number_of (step (By p (Drop i)) s) ≡ 0 → (step (By p (Drop i)) s).answer ≡ Ok Done
drop_tells p i s ok = (unrefused p (Drop i) s ok).tells

-- the slot that a put names
slot_told : (p : ℕ) (a s : List ℕ) → number_of (step (By p (Put a)) s) ≡ 0 → slot_in (step (By p (Put a)) s).answer ≡ free_slot (half_of p s)
slot_told p a s ok = ap slot_in (put_tells p a s ok)

-- A PUT that is not refused leaves its bytes in the slot that it names
pub put_holds : (p : ℕ) (a s : List ℕ) → number_of (step (By p (Put a)) s) ≡ 0
    → Holds p (slot_in (step (By p (Put a)) s).answer) a (step (By p (Put a)) s).bytes
put_holds p a s ok =
    let d = unrefused p (Put a) s ok in
    record {
      party = d.low;
      size = step_length (By p (Put a)) s ∙ d.size;
      held = rw (slot_told p a s ok, own_half p (Put a) s d.low d.size)
          (put_held (half_of p s) a (half_size p s d.low d.size) d.fine);
    }

-- every call but a clear and this party's drop of the slot keeps them there
pub holds_on : (p i : ℕ) (a : List ℕ) (c : Call) (s : List ℕ) → spares p i c ≡ true → Holds p i a s → Holds p i a (step c s).bytes
holds_on p i a Clear s e o = absurd (true≢false (sym e))
holds_on p i a (By b q) s e o =
    record {
      party = o.party;
      size = step_length (By b q) s ∙ o.size;
      held = half_left (λ h. Held h i a) p b q s
          (λ own size. held_on p i q (half_of p s) a size (ap (λ (x : ℕ). spares p i (By x q)) (sym own) ∙ e) o.held) o.held;
    }

pub holds_all : (p i : ℕ) (a : List ℕ) (cs : List Call) (s : List ℕ) → Every (λ c. spares p i c ≡ true) cs → Holds p i a s → Holds p i a (after_all s cs)
unfolding after_all
holds_all p i a [] s e o = o
holds_all p i a (c ∷ cs) s (more e es) o = holds_all p i a cs (step c s).bytes es (holds_on p i a c s e o)

-- what is held is got
pub get_holds : (p i : ℕ) (a s : List ℕ) (room : ℕ) → Holds p i a s → length a ≤ room → step (By p (Get i room)) s ≡ gotten a room s
get_holds p i a s room o fits =
    step_taken p (Get i room) s o.party o.size
    ∙ rw (get_held (half_of p s) i a room o.held fits, put_same p s o.party o.size)

-- KEPT: what a put took is got, byte for byte, whatever either party did in between but a clear and this party's drop of its slot
pub get_after_put : (s : List ℕ) (p : ℕ) (a : List ℕ) (cs : List Call) (room : ℕ) (o : Outcome) → o ≡ step (By p (Put a)) s → number_of o ≡ 0
    → Every (λ c. spares p (slot_in o.answer) c ≡ true) cs
    → length a ≤ room
    → step (By p (Get (slot_in o.answer) room)) (after_all o.bytes cs) ≡ gotten a room (after_all o.bytes cs)
get_after_put s p a cs room o is ok spared fits =
    let put = put_holds p a s (ap number_of (sym is) ∙ ok) in
    get_holds p _ a _ room (holds_all p (slot_in o.answer) a cs o.bytes spared (rw is put)) fits

-- ---- what is dropped is gone

-- DROPPED: a drop that is not refused leaves no byte of the record and none of its entry, and all else as it was (the other half too, by `other_half`)
pub dropped_gone : (p i : ℕ) (s : List ℕ) → number_of (step (By p (Drop i)) s) ≡ 0 → Dropped (half_of p s) (half_of p (step (By p (Drop i)) s).bytes) i
dropped_gone p i s ok =
    let d = unrefused p (Drop i) s ok in
    let u = slot_used (half_of p s) i d.fine in
    let c = drop_change (half_of p s) i d.fine (half_size p s d.low d.size) in
    rw (own_half p (Drop i) s d.low d.size) (record {
      slot = u.slot;
      used = u.used;
      bytes = bytes_here c;
      entry = entry_here c;
      others = byte_same c;
      free = dropped_free c;
    })

-- ---- 20 and 21

module _ (p : ℕ) (s a : List ℕ) where
  placeable : Ready p s a → Placeable (half_of p s) a
  placeable r = record { size = half_size p s r.party r.size; whole = r.whole; accepted = r.accepted }

  -- what refuses the record is answered
  answers : Ready p s a → (r : Refusal) → put_refusal (half_of p s) a ≡ Err r → (step (By p (Put a)) s).answer ≡ Err r
  answers d r e = ap (λ (o : Outcome). o.answer) (half_refused p (Put a) s r d.party d.size e)

  -- 20 EXACTLY: it is told where nothing earlier refuses and all 16 slots are used
  pub full_told : Full p s a → (step (By p (Put a)) s).answer ≡ Err no_free_slot
  full_told f = answers f.ready no_free_slot (put_full (half_of p s) a (placeable f.ready) (all_used (half_of p s) f.used))

  -- and only there, whatever the party, the shelf and the bytes
  pub told_full : number_of (step (By p (Put a)) s) ≡ 20 → Full p s a
  told_full e =
      let d = heard p (Put a) s (omega arith) (λ z. omega (arith, z)) (λ z. omega (arith, z)) e in
      let (placed, full) = twenty (half_of p s) a (half_size p s d.low d.size) d.told in
      record {
        ready = record { party = d.low; size = d.size; whole = placed.whole; accepted = placed.accepted };
        used = none_free (half_of p s) full;
      }

  -- 21 EXACTLY: it is told where nothing earlier refuses, a slot is free and no place has room
  pub crowded_told : Crowded p s a → (step (By p (Put a)) s).answer ≡ Err no_gap
  crowded_told c =
      let free = some_free (half_of p s) c.slot c.low c.free in
      answers c.ready no_gap (put_crowded (half_of p s) a (placeable c.ready) free (no_gap_is (half_of p s) (length a) c.none))

  -- and only there
  pub told_crowded : number_of (step (By p (Put a)) s) ≡ 21 → Crowded p s a
  told_crowded e =
      let d = heard p (Put a) s (omega arith) (λ z. omega (arith, z)) (λ z. omega (arith, z)) e in
      let (placed, slot, crowded) = twenty_one (half_of p s) a (half_size p s d.low d.size) d.told in
      record {
        ready = record { party = d.low; size = d.size; whole = placed.whole; accepted = placed.accepted };
        slot = free_slot (half_of p s);
        low = slot;
        free = slot_free (half_of p s) slot;
        none = no_room (half_of p s) (length a) (omega (arith, placed_long (half_of p s) a placed)) crowded;
      }

-- ---- the lowest of each

half_placed : (h a : List ℕ) → length h ≡ 32768 → put_refusal h a ≡ none → Placed h (on_half (Put a) h).bytes (free_slot h) a
half_placed h a size z =
    let asked = accepted_put h a z in
    let c = put_change h a z size in
    let held = put_held h a size z in
    record {
      slot = asked.slot;
      free = slot_free h asked.slot;
      below = slots_below h;
      room = rw (held_place c) (room_so h (length a) (gap_for h (length a)) (gap_room h (length a) asked.gap));
      before = rw (held_place c) (rooms_below h (length a));
      starts = rw (held_place c) (gap_starts h (length a) asked.gap);
      long = held.long;
      stands = held.bytes;
      others = rw (held_place c) (byte_same c);
    }

-- THE LOWEST OF EACH: a put that is not refused takes the lowest free slot, and the lowest place with room
pub placed_lowest : (p : ℕ) (a s : List ℕ) → number_of (step (By p (Put a)) s) ≡ 0
    → Placed (half_of p s) (half_of p (step (By p (Put a)) s).bytes) (slot_in (step (By p (Put a)) s).answer) a
placed_lowest p a s ok =
    let d = unrefused p (Put a) s ok in
    rw (slot_told p a s ok, own_half p (Put a) s d.low d.size) (half_placed (half_of p s) a (half_size p s d.low d.size) d.fine)

-- ---- nothing is left in the gaps

pub cleared_clean : (s : List ℕ) (p : ℕ) → p < 2 → length s ≡ 65536 → Clean (half_of p (step Clear s).bytes)
cleared_clean s p low size = rw (cleared_half p s low size) (zeros_clean 32768 refl)

pub clean_on : (c : Call) (s : List ℕ) (p : ℕ) → p < 2 → length s ≡ 65536 → Clean (half_of p s) → Clean (half_of p (step c s).bytes)
clean_on Clear s p low size clean = cleared_clean s p low size
clean_on (By b q) s p low size clean = half_left Clean p b q s (λ own long. clean_kept q (half_of p s) long clean) clean

pub clean_after : (cs : List Call) (s : List ℕ) (p : ℕ) → p < 2 → length s ≡ 65536 → Clean (half_of p s) → Clean (half_of p (after_all s cs))
unfolding after_all
clean_after [] s p low size clean = clean
clean_after (c ∷ cs) s p low size clean = clean_after cs (step c s).bytes p low (step_length c s ∙ size) (clean_on c s p low size clean)

-- NOTHING LEFT: after a clear and any calls, each byte of a half past its entries that is in no used slot's record is zero
pub nothing_left : (s : List ℕ) (cs : List Call) (p : ℕ) → p < 2 → length s ≡ 65536 → Clean (half_of p (after_all s (Clear ∷ cs)))
unfolding after_all
nothing_left s cs p low size = clean_after cs (step Clear s).bytes p low (step_length Clear s ∙ size) (cleared_clean s p low size)
