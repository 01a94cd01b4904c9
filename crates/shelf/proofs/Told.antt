-- What a call answers, and what its answer tells.
use mathlib.Core.Path.{◌≡◌, refl, sym, ap, ◌∙◌}
use mathlib.Core.Bool.{true}
use mathlib.Core.List.{List}
use Prim.Native.Nat.{ℕ, ◌<◌}
use lib.ListN.{length}
use Rattle.std.specs.Prelude.{Ok, Err}
use Rattle.modes.specs.declared.Refusal.{Refusal}
use Rattle.modes.specs.Answers.{Verdict, none, number_in}
use Rattle.modes.specs.Refusals.{or_else, unless, answered}
use Rattle.modes.proofs.Reasons.{numbered}
use Rattle.modes.proofs.Refusals.{or_second, neither, by_verdict, unless_not, unless_so, either_way, first_refuses, refused_by}
use Rattle.slots.specs.Half.{length_of, is_whole, free_slot}
use Rattle.shelf.specs.Requests.{Request, Put, Get, Drop, Shelved, Slot, Length, Done, Outcome, unchanged, room_of, on_half}
use Rattle.shelf.specs.Steps.{By, half_of, shelf_refusal, in_shelf, step}
use Rattle.shelf.specs.Outcomes.{number_of}
use Rattle.shelf.proofs.Halves.{taken_shelf}
use Rattle.shelf.proofs.Numbers.{passed, half_undamaged, shelf_tells, sized_tells}
use Rattle.shelf.proofs.Refusals.{refusal_on}
use Rattle.shelf.proofs.Answering.{on_refused, put_is, get_is, drop_is}

-- one of the two is what they give
pub one_refuses : {P : Type 0} (v w : Verdict) (r : Refusal) → or_else v w ≡ Err r → (v ≡ Err r → P) → (v ≡ none → w ≡ Err r → P) → P
unfolding or_else
one_refuses (Ok x) w r e first second = second refl e
one_refuses (Err f) w r e first second = first e

-- the number of an answer is that of what refuses it
number_answered : {A : Type 0} (v : Verdict) (x : A) → number_in (answered v x) ≡ number_in v
unfolding unless
number_answered (Ok t) x = refl
number_answered (Err r) x = refl

-- a refusal has a number, so what has none is not refused
no_number : (v : Verdict) → number_in v ≡ 0 → v ≡ none
no_number (Ok t) e = refl
no_number (Err r) e = absurd (numbered r.reason e)

-- ---- a half

-- what a request tells that nothing refuses
abbrev pub shelved_by : Request → List ℕ → Shelved
shelved_by (Put a) h = Slot (free_slot h)
shelved_by (Get i room) h = Length (length_of h i)
shelved_by (Drop i) h = Done

-- what a half answers
half_answers : (q : Request) (h : List ℕ) → (on_half q h).answer ≡ answered (refusal_on q h) (shelved_by q h)
half_answers q h =
    by_verdict (refusal_on q h) (λ z. taken q z ∙ sym (unless_not (refusal_on q h) Err _ z))
    (λ r e. ap (λ (o : Outcome). o.answer) (on_refused q h r e) ∙ sym (unless_so (refusal_on q h) Err _ r e))
  where
    taken : (q : Request) → refusal_on q h ≡ none → (on_half q h).answer ≡ Ok (shelved_by q h)
    taken (Put a) z = ap (λ (o : Outcome). o.answer) (put_is h a z)
    taken (Get i room) z = ap (λ (o : Outcome). o.answer) (get_is h i room z)
    taken (Drop i) z = ap (λ (o : Outcome). o.answer) (drop_is h i z)

-- ---- the shelf

module _ (p : ℕ) (q : Request) (s : List ℕ) where
  -- WHAT A PARTY'S CALL ANSWERS: what refuses party and shelf, or what the half answers
  pub step_answers : (step (By p q) s).answer ≡ answered (or_else (shelf_refusal p (length s)) (refusal_on q (half_of p s))) (shelved_by q (half_of p s))
  unfolding step
  step_answers =
      let v = shelf_refusal p (length s) in
      let w = refusal_on q (half_of p s) in
      let t = shelved_by q (half_of p s) in
      either_way v (unchanged (room_of q) s) (in_shelf p s (on_half q (half_of p s))) (λ o. o.answer ≡ answered (or_else v w) t)
      (λ z. half_answers q (half_of p s) ∙ sym (ap (λ (u : Verdict). answered u t) (or_second v w z)))
      (λ e y. first_refuses v w Err (Ok t) e y)

  pub step_number : number_of (step (By p q) s) ≡ number_in (or_else (shelf_refusal p (length s)) (refusal_on q (half_of p s)))
  step_number = ap number_in step_answers ∙ number_answered _ (shelved_by q (half_of p s))

  -- a call of which neither 18 nor 19 is told
  pub record Heard (k : ℕ) : Type 0 where
    pub low : p < 2
    pub size : length s ≡ 65536
    pub told : number_in (refusal_on q (half_of p s)) ≡ k

  pub heard : {k : ℕ} → 0 < k → (k ≡ 18 → ⊥) → (k ≡ 19 → ⊥) → number_of (step (By p q) s) ≡ k → Heard k
  heard {k} some n18 n19 e =
      let both = passed (shelf_refusal p (length s)) (refusal_on q (half_of p s)) (shelf_tells p (length s) some n18 n19) (sym step_number ∙ e) in
      let (low, size) = taken_shelf p (length s) both.0 in
      record { low = low; size = size; told = both.1 }

  -- a call that is not refused
  pub record Unrefused : Type 0 where
    pub low : p < 2
    pub size : length s ≡ 65536
    pub fine : refusal_on q (half_of p s) ≡ none
    pub tells : (step (By p q) s).answer ≡ Ok (shelved_by q (half_of p s))

  -- NOT REFUSED: a put tells the lowest free slot, a get the length of what the slot holds, and a drop nothing more
  pub unrefused : number_of (step (By p q) s) ≡ 0 → Unrefused
  unrefused e =
      let all = or_else (shelf_refusal p (length s)) (refusal_on q (half_of p s)) in
      let none_at_all = no_number all (sym step_number ∙ e) in
      let both = neither (shelf_refusal p (length s)) (refusal_on q (half_of p s)) none_at_all in
      let (low, size) = taken_shelf p (length s) both.0 in
      record { low = low; size = size; fine = both.1; tells = step_answers ∙ unless_not all Err (Ok (shelved_by q (half_of p s))) none_at_all }

  -- REFUSED: by what refuses party and shelf, or else the request of the half
  pub refused : (r : Refusal) → (step (By p q) s).answer ≡ Err r → or_else (shelf_refusal p (length s)) (refusal_on q (half_of p s)) ≡ Err r
  refused r e = refused_by (shelved_by q (half_of p s)) _ r (sym e ∙ step_answers)

  -- 19 is told of no shelf of 65,536 bytes whose party's half is not damaged
  pub step_undamaged : length s ≡ 65536 → (p < 2 → is_whole (half_of p s) ≡ true) → number_of (step (By p q) s) ≡ 19 → ⊥
  step_undamaged size w e =
      let both = passed (shelf_refusal p (length s)) (refusal_on q (half_of p s)) (sized_tells p (length s) size) (sym step_number ∙ e) in
      let (low, _) = taken_shelf p (length s) both.0 in
      half_undamaged q (half_of p s) (w low) both.1
