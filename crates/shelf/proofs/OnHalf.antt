-- What a request makes of a half of 32,768 bytes: it keeps its length, and a half that is not damaged stays so.
use mathlib.Core.Path.{◌≡◌, refl, ap}
use mathlib.Core.Bool.{true}
use mathlib.Core.List.{List}
use Prim.Native.Nat.{ℕ, ◌≤◌, ◌<◌}
use native.Mathlib.Omega.{arith}
use lib.Dec.{ltb}
use lib.ListN.{length}
use borrow.Author.Tests.{ltb-true}
use Rattle.modes.specs.Answers.{none}
use Rattle.modes.specs.Refusals.{need, or_else}
use Rattle.modes.proofs.Refusals.{neither, needed, by_verdict}
use Rattle.lent.specs.Bytes.{zeros}
use Rattle.record.specs.Refusals.{refusal_of}
use Rattle.record.proofs.Accepted.{accepted_laid}
use Rattle.slots.specs.Half.{place_of, length_of, is_whole, free_slot, gap_for, entry_bytes}
use Rattle.slots.proofs.Wholes.{slot_free, gap_room}
use Rattle.slots.proofs.Kept.{Change, kept, holding_change, held_whole, without_change, dropped_whole}
use Rattle.slots.specs.Gaps.{Clean}
use Rattle.slots.proofs.Clean.{held_clean, dropped_clean}
use Rattle.shelf.specs.Requests.{Request, Put, Get, Drop, Outcome, damaged_half, no_free_slot, no_gap, put_refusal, slot_refusal, on_half}
use Rattle.shelf.proofs.Refusals.{refusal_on, slot_used}
use Rattle.shelf.proofs.Answering.{on_refused, put_is, get_is, drop_is}

-- what holds of the half as it was, and of what a request leaves that nothing refuses, holds of what the request leaves
pub left_by : (q : Request) (h : List ℕ) (P : List ℕ → Type 0) → P h → (refusal_on q h ≡ none → P (on_half q h).bytes) → P (on_half q h).bytes
left_by q h P as_it_was taken = by_verdict (refusal_on q h) taken (λ r e. rw (on_refused q h r e) as_it_was)

-- ---- a put

-- what a put asks for: a half that is not damaged, an accepted record, a free slot and a gap
pub record Puttable (h a : List ℕ) : Type 0 where
  pub whole : is_whole h ≡ true
  pub accepted : refusal_of 1 a ≡ none
  pub slot : free_slot h < 16
  pub gap : gap_for h (length a) < 32768

module _ (h a : List ℕ) (z : put_refusal h a ≡ none) where
  pub accepted_put : Puttable h a
  unfolding put_refusal
  accepted_put =
      let slot = need (ltb (free_slot h) 16) no_free_slot in
      let gap = need (ltb (gap_for h (length a)) 32768) no_gap in
      let first = neither (need (is_whole h) damaged_half) (or_else (refusal_of 1 a) (or_else slot gap)) z in
      let second = neither (refusal_of 1 a) (or_else slot gap) first.1 in
      let last = neither slot gap second.1 in
      record {
        whole = needed (is_whole h) damaged_half first.0;
        accepted = second.0;
        slot = ltb-true _ _ (needed (ltb (free_slot h) 16) no_free_slot last.0);
        gap = ltb-true _ _ (needed (ltb (gap_for h (length a)) 32768) no_gap last.1);
      }

  -- the record has its header
  pub put_long : 32 ≤ length a
  put_long = omega (arith, (accepted_laid 1 a accepted_put.accepted).size)

  -- it comes to the lowest place with room, and its name to the lowest free slot
  pub put_change : length h ≡ 32768
      → Change h (on_half (Put a) h).bytes (free_slot h) (gap_for h (length a)) (length a) a (entry_bytes (gap_for h (length a)) (length a))
  put_change size =
      let made = ap (λ (o : Outcome). o.bytes) (put_is h a z) in
      let asked = accepted_put in
      holding_change h (free_slot h) (gap_for h (length a)) a made size asked.whole asked.slot (gap_room h (length a) asked.gap)

-- ---- a get changes nothing

pub get_keeps : (i room : ℕ) (h : List ℕ) → (on_half (Get i room) h).bytes ≡ h
get_keeps i room h = left_by (Get i room) h (λ k. k ≡ h) refl (λ z. ap (λ (o : Outcome). o.bytes) (get_is h i room z))

-- ---- a drop

pub drop_change : (h : List ℕ) (i : ℕ) → slot_refusal h i ≡ none → length h ≡ 32768
    → Change h (on_half (Drop i) h).bytes i (place_of h i) (length_of h i) (zeros (length_of h i)) (zeros 32)
drop_change h i z size =
    let u = slot_used h i z in
    without_change h i (ap (λ (o : Outcome). o.bytes) (drop_is h i z)) size u.whole u.slot u.used

-- ---- every request

-- THE LENGTH of a half is kept
pub keeps : (q : Request) (h : List ℕ) → length h ≡ 32768 → length (on_half q h).bytes ≡ 32768
keeps (Put a) h size = left_by (Put a) h (λ k. length k ≡ 32768) size (λ z. (kept (put_change h a z size)).size)
keeps (Get i room) h size = rw get_keeps size
keeps (Drop i) h size = left_by (Drop i) h (λ k. length k ≡ 32768) size (λ z. (kept (drop_change h i z size)).size)

-- NO REQUEST DAMAGES a half
pub whole_kept : (q : Request) (h : List ℕ) → length h ≡ 32768 → is_whole h ≡ true → is_whole (on_half q h).bytes ≡ true
whole_kept (Put a) h size whole =
    left_by (Put a) h (λ k. is_whole k ≡ true) whole (λ z. held_whole (put_change h a z size) (put_long h a z))
whole_kept (Get i room) h size whole = rw get_keeps whole
whole_kept (Drop i) h size whole = left_by (Drop i) h (λ k. is_whole k ≡ true) whole (λ z. dropped_whole (drop_change h i z size))

-- nor leaves anything in its gaps
pub clean_kept : (q : Request) (h : List ℕ) → length h ≡ 32768 → Clean h → Clean (on_half q h).bytes
clean_kept (Put a) h size clean =
    left_by (Put a) h Clean clean (λ z. held_clean (put_change h a z size) (put_long h a z) (slot_free h (accepted_put h a z).slot) clean)
clean_kept (Get i room) h size clean = rw get_keeps clean
clean_kept (Drop i) h size clean = left_by (Drop i) h Clean clean (λ z. dropped_clean (drop_change h i z size) clean)
