-- A record in a slot of a half: which requests leave it there, and that it is got.
use mathlib.Core.Path.{◌≡◌, refl, sym, ap, ◌∙◌}
use mathlib.Core.Bool.{true, false, true≢false}
use mathlib.Core.List.{List, ◌++◌}
use Prim.Native.Nat.{ℕ, ◌-◌, ◌≤◌, ◌<◌}
use lib.ListN.{length}
use borrow.Author.Tests.{eq-eqb}
use Rattle.std.specs.Prelude.{Ok}
use Rattle.modes.specs.Answers.{none}
use Rattle.lent.specs.Bytes.{zeros}
use Rattle.slots.specs.Half.{length_of, is_free, is_whole, free_slot}
use Rattle.slots.proofs.Wholes.{slot_free}
use Rattle.slots.proofs.Kept.{Same, same_free, kept, held_length, held_bytes, held_used, held_whole}
use Rattle.shelf.specs.Requests.{Request, Put, Get, Drop, Length, put_refusal, record_in, on_half}
use Rattle.shelf.specs.Steps.{By}
use Rattle.shelf.specs.Runs.{spares}
use Rattle.shelf.proofs.Refusals.{slot_held, get_fits}
use Rattle.shelf.proofs.Answering.{get_is}
use Rattle.shelf.proofs.OnHalf.{left_by, accepted_put, put_long, put_change, get_keeps, drop_change, whole_kept}

-- slot i of a half that is not damaged holds the bytes a
pub record Held (h : List ℕ) (i : ℕ) (a : List ℕ) : Type 0 where
  pub whole : is_whole h ≡ true
  pub slot : i < 16
  pub used : is_free h i ≡ false
  pub long : length_of h i ≡ length a
  pub bytes : record_in h i ≡ a

-- what is put is held
pub put_held : (h a : List ℕ) → length h ≡ 32768 → put_refusal h a ≡ none → Held (on_half (Put a) h).bytes (free_slot h) a
put_held h a size z =
    let c = put_change h a z size in
    let long = put_long h a z in
    record {
      whole = held_whole c long;
      slot = (accepted_put h a z).slot;
      used = held_used c long;
      long = held_length c;
      bytes = held_bytes c;
    }

-- a slot that is the same holds the same
same_held : {h h' : List ℕ} {i : ℕ} {a : List ℕ} → Same h h' i → is_whole h' ≡ true → Held h i a → Held h' i a
same_held s whole o =
    record {
      whole = whole;
      slot = o.slot;
      used = same_free s ∙ o.used;
      long = s.long ∙ o.long;
      bytes = rw (s.place, s.long) (s.bytes o.used ∙ o.bytes);
    }

-- any request but a drop of this slot leaves it held
pub held_on : (p i : ℕ) (q : Request) (h a : List ℕ) → length h ≡ 32768 → spares p i (By p q) ≡ true → Held h i a → Held (on_half q h).bytes i a
held_on p i (Put b) h a size e o =
    left_by (Put b) h (λ k. Held k i a) o
    (λ z.
    let other : i ≡ free_slot h → ⊥ = λ same. true≢false (sym (slot_free h (accepted_put h b z).slot) ∙ ap (is_free h) (sym same) ∙ o.used) in
    same_held ((kept (put_change h b z size)).others i o.slot other) (whole_kept (Put b) h size o.whole) o)
held_on p i (Get j room) h a size e o = rw get_keeps o
held_on p i (Drop j) h a size e o =
    left_by (Drop j) h (λ k. Held k i a) o
    (λ z. same_held ((kept (drop_change h j z size)).others i o.slot other) (whole_kept (Drop j) h size o.whole) o)
  where
    other : i ≡ j → ⊥
    other same = true≢false (sym (rw (eq-eqb p p refl, eq-eqb j i (sym same)) at e))

-- and what is held is got
pub get_held : (h : List ℕ) (i : ℕ) (a : List ℕ) (room : ℕ) → Held h i a → length a ≤ room
    → on_half (Get i room) h ≡ record { answer = Ok (Length (length a)); output = a ++ zeros (room - length a); bytes = h }
get_held h i a room o fits =
    let taken = get_fits h i room (slot_held h i o.whole o.slot o.used) (rw o.long fits) in
    get_is h i room taken ∙ rw (o.bytes, o.long)
