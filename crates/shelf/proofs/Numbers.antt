-- Which number refuses, of two refusals in order, of a half and of a shelf.
use mathlib.Core.Path.{◌≡◌, refl, sym}
use mathlib.Core.Bool.{Bool, true, false, ◌&&◌, not}
use mathlib.Core.List.{List}
use Prim.Native.Nat.{ℕ, ◌≤◌, ◌<◌}
use native.Mathlib.Omega.{arith}
use lib.Dec.{eqb, leb, ltb}
use lib.ListN.{length}
use borrow.Author.Tests.{ltb-true, ltb-false, eq-eqb}
use Rattle.std.specs.Prelude.{Ok, Err}
use Rattle.modes.specs.declared.Refusal.{Refusal}
use Rattle.modes.specs.Reasons.{number_of}
use Rattle.modes.specs.Answers.{Verdict, none, number_in, output_too_short}
use Rattle.modes.specs.Refusals.{need, or_else}
use Rattle.modes.proofs.Refusals.{needed}
use Rattle.record.specs.Refusals.{refusal_of}
use Rattle.slots.specs.Half.{length_of, is_free, is_whole, free_slot, gap_for}
use Rattle.shelf.specs.Requests.{Request, Put, Get, Drop, put_refusal, slot_refusal, get_refusal}
use Rattle.shelf.specs.Requests.{no_such_party, damaged_half, no_free_slot, no_gap, no_such_slot}
use Rattle.shelf.specs.Steps.{shelf_refusal}
use Rattle.shelf.specs.Placing.{Placeable}
use Rattle.shelf.proofs.Halves.{by_test}
use Rattle.shelf.proofs.RecordNumbers.{record_number}
use Rattle.shelf.proofs.Refusals.{refusal_on}

-- ---- two refusals in order

-- a number that is not the first's is the second's, and the first has none
pub passed : {k : ℕ} (v w : Verdict) → (number_in v ≡ k → ⊥) → number_in (or_else v w) ≡ k → (v ≡ none) × (number_in w ≡ k)
unfolding or_else
passed (Ok x) w other e = (refl, e)
passed (Err r) w other e = absurd (other e)

-- a number that neither has is not told
neither_tells : {k : ℕ} (v w : Verdict) → (number_in v ≡ k → ⊥) → (number_in w ≡ k → ⊥) → number_in (or_else v w) ≡ k → ⊥
neither_tells v w first second e = second (passed v w first e).1

-- nor one that a test could not give
test_tells : {k : ℕ} (b : Bool) (r : Refusal) → 0 < k → (number_of r.reason ≡ k → ⊥) → number_in (need b r) ≡ k → ⊥
test_tells true r some other e = omega arith
test_tells false r some other e = other e

-- ---- a half

-- 19 is told of no half that is not damaged: the record's own numbers are at most 5
slot_undamaged : (h : List ℕ) (i : ℕ) → is_whole h ≡ true → number_in (slot_refusal h i) ≡ 19 → ⊥
unfolding slot_refusal
slot_undamaged h i w =
    rw w
    (neither_tells none (need (ltb i 16 && not (is_free h i)) no_such_slot) (λ e. omega (arith, e))
    (test_tells (ltb i 16 && not (is_free h i)) no_such_slot (omega arith) (λ e. omega (arith, e))))

pub half_undamaged : (q : Request) (h : List ℕ) → is_whole h ≡ true → number_in (refusal_on q h) ≡ 19 → ⊥
unfolding put_refusal get_refusal
half_undamaged (Put a) h w =
    let slot = need (ltb (free_slot h) 16) no_free_slot in
    let gap = need (ltb (gap_for h (length a)) 32768) no_gap in
    rw w
    (neither_tells none (or_else (refusal_of 1 a) (or_else slot gap)) (λ e. omega (arith, e))
    (neither_tells (refusal_of 1 a) (or_else slot gap) (λ e. omega (arith, record_number 1 a))
    (neither_tells slot gap (test_tells (ltb (free_slot h) 16) no_free_slot (omega arith) (λ e. omega (arith, e)))
    (test_tells (ltb (gap_for h (length a)) 32768) no_gap (omega arith) (λ e. omega (arith, e))))))
half_undamaged (Get i room) h w =
    neither_tells (slot_refusal h i) (need (leb (length_of h i) room) output_too_short) (slot_undamaged h i w)
    (test_tells (leb (length_of h i) room) output_too_short (omega arith) (λ e. omega (arith, e)))
half_undamaged (Drop i) h w = slot_undamaged h i w

-- ---- 20 and 21

module _ (h a : List ℕ) (size : length h ≡ 32768) where
  -- a put's number above 19 tells that the record may be placed, and is 20 or 21
  late : {k : ℕ} → 19 < k → number_in (put_refusal h a) ≡ k
      → Placeable h a × (number_in (or_else (need (ltb (free_slot h) 16) no_free_slot) (need (ltb (gap_for h (length a)) 32768) no_gap)) ≡ k)
  unfolding put_refusal
  late {k} above e =
      let first = passed (need (is_whole h) damaged_half) _ (test_tells (is_whole h) damaged_half (omega arith) (λ z. omega (arith, z))) e in
      let second = passed (refusal_of 1 a) _ (λ z. omega (arith, record_number 1 a)) first.1 in
      (record { size = size; whole = needed (is_whole h) damaged_half first.0; accepted = second.0 }, second.1)

  -- 20 tells that no slot is free
  pub twenty : number_in (put_refusal h a) ≡ 20 → Placeable h a × (16 ≤ free_slot h)
  twenty e =
      let l = late (omega arith) e in
      let fits = ltb (gap_for h (length a)) 32768 in
      let never = test_tells {k = 20} fits no_gap (omega arith) (λ z. omega (arith, z)) in
      let taken : ltb (free_slot h) 16 ≡ true → 16 ≤ free_slot h =
      λ t. absurd (neither_tells none (need fits no_gap) (λ z. omega (arith, z)) never (rw t at l.1)) in
      (l.0, by_test (ltb (free_slot h) 16) taken (ltb-false (free_slot h) 16))

  -- 21 tells that one is free, and that there is no gap
  pub twenty_one : number_in (put_refusal h a) ≡ 21 → Placeable h a × (free_slot h < 16) × (32768 ≤ gap_for h (length a))
  twenty_one e =
      let l = late (omega arith) e in
      let free = ltb (free_slot h) 16 in
      let fits = ltb (gap_for h (length a)) 32768 in
      let last = passed (need free no_free_slot) (need fits no_gap) (test_tells free no_free_slot (omega arith) (λ z. omega (arith, z))) l.1 in
      let never : fits ≡ true → 32768 ≤ gap_for h (length a) = λ t. let z : number_in (need true no_gap) ≡ 21 = rw t at last.1 in omega (arith, z) in
      (l.0, ltb-true _ _ (needed free no_free_slot last.0), by_test fits never (ltb-false (gap_for h (length a)) 32768))

-- ---- the shelf

-- 18 and 19 are the only numbers that a shelf tells by itself
pub shelf_tells : {k : ℕ} (p n : ℕ) → 0 < k → (k ≡ 18 → ⊥) → (k ≡ 19 → ⊥) → number_in (shelf_refusal p n) ≡ k → ⊥
unfolding shelf_refusal
shelf_tells {k} p n some n18 n19 =
    neither_tells (need (ltb p 2) no_such_party) (need (eqb n 65536) damaged_half)
    (test_tells (ltb p 2) no_such_party some (λ z. n18 (sym z))) (test_tells (eqb n 65536) damaged_half some (λ z. n19 (sym z)))

-- and 19 is not told of a shelf of its length
pub sized_tells : (p n : ℕ) → n ≡ 65536 → number_in (shelf_refusal p n) ≡ 19 → ⊥
unfolding shelf_refusal
sized_tells p n size =
    rw (eq-eqb n 65536 size)
    (neither_tells (need (ltb p 2) no_such_party) none (test_tells (ltb p 2) no_such_party (omega arith) (λ z. omega (arith, z))) (λ z. omega (arith, z)))
