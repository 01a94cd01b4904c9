-- What refuses a request, reason by reason.
use mathlib.Core.Path.{◌≡◌}
use mathlib.Core.Bool.{true, false, ◌&&◌, not}
use mathlib.Core.List.{List}
use Prim.Native.Nat.{ℕ, ◌+◌, ◌*◌, ◌≤◌, ◌<◌}
use native.Mathlib.Omega.{arith}
use lib.Dec.{ltb}
use lib.ListN.{length}
use borrow.Author.Tests.{ltb-true, lt-ltb, le-ltb, le-leb, lt-leb, ne_eqb, eq-eqb, not-true}
use Rattle.std.specs.Prelude.{Ok, Err}
use Rattle.modes.specs.declared.Refusal.{Refusal}
use Rattle.modes.specs.Answers.{Verdict, none, output_too_short}
use Rattle.modes.specs.Refusals.{need, or_else, unless}
use Rattle.modes.proofs.Bools.{and_l, and_r}
use Rattle.modes.proofs.Refusals.{neither, needed, not_refused}
use Rattle.record.specs.Refusals.{refusal_of}
use Rattle.record.proofs.Accepted.{accepted_laid}
use Rattle.slots.specs.Half.{place_of, length_of, is_free, is_whole, free_slot, gap_for}
use Rattle.slots.proofs.Wholes.{inside_half}
use Rattle.shelf.specs.Requests.{Request, Put, Get, Drop, put_refusal, slot_refusal, get_refusal}
use Rattle.shelf.specs.Requests.{no_such_party, damaged_half, no_free_slot, no_gap, no_such_slot}
use Rattle.shelf.specs.Steps.{shelf_refusal}
use Rattle.shelf.specs.Placing.{start_of, used_slot, Placeable}

-- what refuses each request of a half
abbrev pub refusal_on : Request → List ℕ → Verdict
refusal_on (Put a) h = put_refusal h a
refusal_on (Get i room) h = get_refusal h i room
refusal_on (Drop i) h = slot_refusal h i

-- ---- 18, and 19 of a length

module _ (p size : ℕ) where
  pub no_party : 2 ≤ p → shelf_refusal p size ≡ Err no_such_party
  unfolding shelf_refusal or_else
  no_party l = rw (le-ltb p 2 l)

  pub other_size : p < 2 → (size ≡ 65536 → ⊥) → shelf_refusal p size ≡ Err damaged_half
  unfolding shelf_refusal or_else
  other_size l n = rw (lt-ltb p 2 l, ne_eqb size 65536 n)

  -- each way out of the search for a half
  pub start_no_party : 2 ≤ p → Err no_such_party ≡ start_of p size
  unfolding unless
  start_no_party l = rw (no_party l)

  pub start_other_size : p < 2 → (size ≡ 65536 → ⊥) → Err damaged_half ≡ start_of p size
  unfolding unless
  start_other_size l n = rw (other_size l n)

  pub start_found : p < 2 → size ≡ 65536 → Ok (32768 * p) ≡ start_of p size
  unfolding unless shelf_refusal or_else
  start_found l e = rw (lt-ltb p 2 l, eq-eqb size 65536 e)

-- ---- 19, then 22

module _ (h : List ℕ) (i : ℕ) where
  -- each way out of the search for a slot
  pub slot_damaged : is_whole h ≡ false → Err damaged_half ≡ used_slot h i
  unfolding slot_refusal or_else unless
  slot_damaged w = rw w

  module _ (w : is_whole h ≡ true) where
    pub slot_beyond : 16 ≤ i → Err no_such_slot ≡ used_slot h i
    unfolding slot_refusal or_else unless
    slot_beyond l = rw (w, le-ltb i 16 l)

    module _ (l : i < 16) where
      pub slot_empty : is_free h i ≡ true → Err no_such_slot ≡ used_slot h i
      unfolding slot_refusal or_else unless
      slot_empty f = rw (w, lt-ltb i 16 l, f)

      pub slot_held : is_free h i ≡ false → slot_refusal h i ≡ none
      unfolding slot_refusal or_else
      slot_held f = rw (w, lt-ltb i 16 l, f)

      pub slot_found : is_free h i ≡ false → Ok i ≡ used_slot h i
      unfolding unless
      slot_found f = rw (slot_held f)

  -- a slot that is not refused is a used one of a half that is not damaged
  pub record Used : Type 0 where
    pub whole : is_whole h ≡ true
    pub slot : i < 16
    pub used : is_free h i ≡ false

  pub slot_used : slot_refusal h i ≡ none → Used
  unfolding slot_refusal
  slot_used z =
      let both = neither (need (is_whole h) damaged_half) (need (ltb i 16 && not (is_free h i)) no_such_slot) z in
      let held = needed (ltb i 16 && not (is_free h i)) no_such_slot both.1 in
      record {
        whole = needed (is_whole h) damaged_half both.0;
        slot = ltb-true i 16 (and_l (ltb i 16) _ held);
        used = not-true _ (and_r (ltb i 16) _ held);
      }

  -- what its entry names lies within the half
  pub used_inside : Used → place_of h i + length_of h i ≤ 32768
  used_inside u = inside_half h u.whole i u.slot

-- a slot as a call finds it
pub record Found (h : List ℕ) (i j : ℕ) : Type 0 where
  pub fine : slot_refusal h i ≡ none
  pub is : j ≡ i
  pub low : j < 16
  pub inside : place_of h j + length_of h j ≤ 32768

pub found : (h : List ℕ) (i j : ℕ) → Ok j ≡ used_slot h i → Found h i j
found h i j e =
    let told = not_refused i (slot_refusal h i) j e in
    let used = slot_used h i told.0 in
    record { fine = told.0; is = told.1; low = rw told.1 used.slot; inside = rw told.1 (used_inside h i used) }

-- ---- 11 of a get

module _ (h : List ℕ) (i room : ℕ) where
  pub get_slot : (r : Refusal) → slot_refusal h i ≡ Err r → get_refusal h i room ≡ Err r
  unfolding get_refusal or_else
  get_slot r e = rw e

  module _ (z : slot_refusal h i ≡ none) where
    pub get_short : room < length_of h i → get_refusal h i room ≡ Err output_too_short
    unfolding get_refusal or_else
    get_short l = rw (z, lt-leb (length_of h i) room l)

    pub get_fits : length_of h i ≤ room → get_refusal h i room ≡ none
    unfolding get_refusal or_else
    get_fits l = rw (z, le-leb (length_of h i) room l)

-- ---- a put

module _ (h a : List ℕ) where
  pub put_damaged : is_whole h ≡ false → put_refusal h a ≡ Err damaged_half
  unfolding put_refusal or_else
  put_damaged w = rw w

  -- the record's own
  pub put_unread : is_whole h ≡ true → (r : Refusal) → refusal_of 1 a ≡ Err r → put_refusal h a ≡ Err r
  unfolding put_refusal or_else
  put_unread w r e = rw (w, e)

  module _ (p : Placeable h a) where
    -- an accepted record has its header, and at most 2,048 terms
    pub placed_long : (32 ≤ length a) × (length a ≤ 49184)
    placed_long = let laid = accepted_laid 1 a p.accepted in (omega (arith, laid.size), omega (arith, laid.size, laid.few))

    pub put_full : 16 ≤ free_slot h → put_refusal h a ≡ Err no_free_slot
    unfolding put_refusal or_else
    put_full l = rw (p.whole, p.accepted, le-ltb (free_slot h) 16 l)

    module _ (l : free_slot h < 16) where
      pub put_crowded : 32768 ≤ gap_for h (length a) → put_refusal h a ≡ Err no_gap
      unfolding put_refusal or_else
      put_crowded k = rw (p.whole, p.accepted, lt-ltb (free_slot h) 16 l, le-ltb (gap_for h (length a)) 32768 k)

      pub put_taken : gap_for h (length a) < 32768 → put_refusal h a ≡ none
      unfolding put_refusal or_else
      put_taken k = rw (p.whole, p.accepted, lt-ltb (free_slot h) 16 l, lt-ltb (gap_for h (length a)) 32768 k)
