-- What one party sees of a run, and its half after it, depend on its own calls and on clears alone.
use mathlib.Core.Path.{◌≡◌, refl, sym, ap, ◌∙◌}
use mathlib.Core.Bool.{true, false}
use mathlib.Core.List.{List, [], ◌∷◌}
use Prim.Native.Nat.{ℕ, suc, ◌<◌}
use lib.Dec.{eqb}
use lib.ListN.{length, length-replicate}
use borrow.Author.Tests.{eqb-true, eqb-false, ne_eqb}
use Rattle.std.specs.Prelude.{Err}
use Rattle.modes.specs.declared.Refusal.{Refusal}
use Rattle.modes.specs.Refusals.{unless}
use Rattle.modes.proofs.Refusals.{unless_not, unless_so, either_way}
use Rattle.tally.specs.Ranks.{chosen}
use Rattle.shelf.specs.Requests.{Request, Outcome, unchanged, on_half, room_of}
use Rattle.shelf.specs.Steps.{Call, Clear, By, half_of, shelf_refusal, in_shelf, step}
use Rattle.shelf.specs.Runs.{after_all, concerns, own_calls, Seen, seen_by, seen}
use Rattle.shelf.proofs.Halves.{by_test, half_size, half_put, half_other, put_length, taken_shelf}
use Rattle.shelf.proofs.Answering.{step_taken}
use Rattle.shelf.proofs.OnHalf.{keeps}

-- to party p two shelves look alike
record Alike (p : ℕ) (s t : List ℕ) : Type 0 where
  size : length s ≡ length t
  half : half_of p s ≡ half_of p t

-- in a run of cs from s and in one of ds from t party p sees the same, and the two shelves look alike to it at the end
record Same (p : ℕ) (s : List ℕ) (cs : List Call) (t : List ℕ) (ds : List Call) : Type 0 where
  sees : seen p s cs ≡ seen p t ds
  left : Alike p (after_all s cs) (after_all t ds)

joined : {p : ℕ} {s t u : List ℕ} {cs ds es : List Call} → Same p s cs t ds → Same p t ds u es → Same p s cs u es
joined a b = record { sees = cc; left = record { size = cc; half = cc } }

-- a clear leaves nothing of a shelf but its length
same_clear : (s t : List ℕ) → length s ≡ length t → step Clear s ≡ step Clear t
unfolding step
same_clear s t e = rw e

-- a request changes one half of a whole shelf, or nothing
pub either_step : (p : ℕ) (q : Request) (s : List ℕ) (P : Outcome → Type 0)
    → (p < 2 → length s ≡ 65536 → P (in_shelf p s (on_half q (half_of p s))))
    → ((r : Refusal) → shelf_refusal p (length s) ≡ Err r → P (unchanged (room_of q) s r))
    → P (step (By p q) s)
unfolding step
either_step p q s P taken refused =
    either_way (shelf_refusal p (length s)) (unchanged (room_of q) s) _ P
    (λ z. let (low, whole) = taken_shelf p (length s) z in taken low whole) refused

-- what party p's request does to its half, and answers: all that it takes of the rest of the shelf is the length
on_own : ℕ → Request → ℕ → List ℕ → Outcome
on_own p q n h = unless (shelf_refusal p n) (unchanged (room_of q) h) (on_half q h)

abbrev seen_of : Outcome → Seen
seen_of o = record { answer = o.answer; output = o.output; half = o.bytes }

-- ---- one step

module _ (p : ℕ) (q : Request) (s : List ℕ) (low : p < 2) (whole : length s ≡ 65536) where
  half_kept : length (on_half q (half_of p s)).bytes ≡ 32768
  half_kept = keeps q (half_of p s) (half_size p s low whole)

  -- what is made of a half is read back
  read_back : seen_by p (in_shelf p s (on_half q (half_of p s))) ≡ seen_of (on_half q (half_of p s))
  read_back = rw (half_put p s low whole _ half_kept)

-- every call keeps the length of the shelf
pub step_length : (c : Call) (s : List ℕ) → length (step c s).bytes ≡ length s
unfolding step
step_length Clear s = length-replicate (length s) 0
step_length (By p q) s =
    either_step p q s (λ o. length o.bytes ≡ length s) (λ low whole. put_length p s low whole _ (half_kept p q s low whole) ∙ sym whole) (λ _ _. refl)

-- what party p sees of its own request
own_seen : (p : ℕ) (q : Request) (s : List ℕ) → seen_by p (step (By p q) s) ≡ seen_of (on_own p q (length s) (half_of p s))
unfolding step on_own
own_seen p q s =
    let r = shelf_refusal p (length s) in
    let taken = taken_shelf p (length s) in
    either_way r (unchanged (room_of q) s) _ (λ o. seen_by p o ≡ seen_of (on_own p q (length s) (half_of p s)))
    (λ z. read_back p q s (taken z).0 (taken z).1 ∙ ap seen_of (sym (unless_not r _ _ z)))
    (λ e n. ap seen_of (sym (unless_so r _ _ e n)))

-- what a party sees of its own call, or of a clear, depends on the shelf's length and its half alone
pub own_step : (p : ℕ) (c : Call) (s t : List ℕ) → concerns p c ≡ true → length s ≡ length t → half_of p s ≡ half_of p t
    → seen_by p (step c s) ≡ seen_by p (step c t)
own_step p Clear s t e size half = ap (seen_by p) (same_clear s t size)
own_step p (By q r) s t e size half = rw (eqb-true q p e) (cc (own_seen p r s, own_seen p r t))

-- and another's call keeps its half
pub other_step : (p : ℕ) (c : Call) (s : List ℕ) → concerns p c ≡ false → half_of p (step c s).bytes ≡ half_of p s
other_step p Clear s e = cc
other_step p (By q r) s e =
    either_step q r s (λ o. half_of p o.bytes ≡ half_of p s)
    (λ low whole. half_other q s low whole _ (half_kept q r s low whole) p (λ z. eqb-false q p e (sym z))) (λ _ _. refl)

-- THE OTHER HALF is as it was after any request
pub other_half : (b p : ℕ) (q : Request) (s : List ℕ) → (p ≡ b → ⊥) → half_of b (step (By p q) s).bytes ≡ half_of b s
other_half b p q s other = other_step b (By p q) s (ne_eqb p b other)

-- the half of the party that calls
pub own_half : (p : ℕ) (q : Request) (s : List ℕ) → p < 2 → length s ≡ 65536 → half_of p (step (By p q) s).bytes ≡ (on_half q (half_of p s)).bytes
own_half p q s low whole = rw (step_taken p q s low whole) (half_put p s low whole _ (half_kept p q s low whole))

-- what holds of a half, and of what its own party's request makes of it, holds of the half after the call
own_left : (P : List ℕ → Type 0) (p : ℕ) (q : Request) (s : List ℕ) → (length (half_of p s) ≡ 32768 → P (on_half q (half_of p s)).bytes) → P (half_of p s)
    → P (half_of p (step (By p q) s).bytes)
own_left P p q s made as_it_was =
    either_step p q s (λ o. P (half_of p o.bytes))
    (λ low whole. rw (half_put p s low whole _ (half_kept p q s low whole)) (made (half_size p s low whole))) (λ _ _. as_it_was)

-- and so whoever's call it is
pub half_left : (P : List ℕ → Type 0) (b p : ℕ) (q : Request) (s : List ℕ)
    → (p ≡ b → length (half_of b s) ≡ 32768 → P (on_half q (half_of b s)).bytes)
    → P (half_of b s)
    → P (half_of b (step (By p q) s).bytes)
half_left P b p q s made as_it_was =
    by_test (eqb p b)
    (λ e. let same : p ≡ b = eqb-true p b e in rw same (own_left P b q s (made same) as_it_was))
    (λ e. rw (other_step b (By p q) s e) as_it_was)

-- shelves that look alike go on to look alike
step_alike : (p : ℕ) (c : Call) {s t : List ℕ} → Alike p s t → Alike p (step c s).bytes (step c t).bytes
step_alike p c {s} {t} a =
    record {
      size = step_length c s ∙ a.size ∙ sym (step_length c t);
      half = by_test (concerns p c)
          (λ e. ap (λ (x : Seen). x.half) (own_step p c s t e a.size a.half))
          (λ e. other_step p c s e ∙ a.half ∙ sym (other_step p c t e));
    }

-- ---- runs

-- what a party sees has an entry for each of its own calls and of the clears
pub seen_each : (p : ℕ) (cs : List Call) (s : List ℕ) → length (seen p s cs) ≡ length (own_calls p cs)
unfolding seen chosen
seen_each p [] s = refl
seen_each p (c ∷ cs) s =
    let later = seen_each p cs (step c s).bytes in
    by_test (concerns p c) (λ e. rw e (ap suc later)) (λ e. rw e later)

-- a run from shelves that look alike
same_run : (p : ℕ) (cs : List Call) {s t : List ℕ} → Alike p s t → Same p s cs t cs
unfolding seen after_all
same_run p [] a = record { sees = refl; left = a }
same_run p (c ∷ cs) {s} {t} a =
    let later = same_run p cs (step_alike p c a) in
    record {
      sees = by_test (concerns p c)
          (λ e. rw (e, own_step p c s t e a.size a.half, later.sees))
          (λ e. rw (e, later.sees));
      left = later.left;
    }

-- a call of the other party at the start changes nothing
passed_over : (p : ℕ) (c : Call) (cs : List Call) (s : List ℕ) → concerns p c ≡ false → Same p s (c ∷ cs) s cs
unfolding seen after_all
passed_over p c cs s e =
    let same = same_run p cs {s = (step c s).bytes} {t = s} (record { size = step_length c s; half = other_step p c s e }) in
    record { sees = rw e same.sees; left = same.left }

-- nor do all of them
own_run : (p : ℕ) (cs : List Call) (s : List ℕ) → Same p s cs s (own_calls p cs)
unfolding seen after_all chosen
own_run p [] s = record { sees = refl; left = record { size = refl; half = refl } }
own_run p (c ∷ cs) s =
    let later = own_run p cs (step c s).bytes in
    by_test (concerns p c)
    (λ e. rw e (record { sees = rw later.sees; left = later.left }))
    (λ e. rw e (joined (passed_over p c cs s e) (own_run p cs s)))

-- two runs with the same calls of p and the same clears in it
both_runs : (p : ℕ) (cs ds : List Call) {s t : List ℕ} → Alike p s t → own_calls p cs ≡ own_calls p ds → Same p s cs t ds
both_runs p cs ds {s} {t} a own =
    let first = own_run p cs s in
    let second = own_run p ds t in
    let same = same_run p (own_calls p ds) a in
    record { sees = cc; left = record { size = cc; half = cc } }

-- TWO RUNS: the other party's calls and half, whatever they are, change nothing that party p sees
pub two_runs : (p : ℕ) (s t : List ℕ) (cs ds : List Call) → length s ≡ length t → half_of p s ≡ half_of p t → own_calls p cs ≡ own_calls p ds
    → seen p s cs ≡ seen p t ds
two_runs p s t cs ds size half own = (both_runs p cs ds (record { size = size; half = half }) own).sees

-- nor anything in its half at the end
pub two_halves : (p : ℕ) (s t : List ℕ) (cs ds : List Call) → length s ≡ length t → half_of p s ≡ half_of p t → own_calls p cs ≡ own_calls p ds
    → half_of p (after_all s cs) ≡ half_of p (after_all t ds)
two_halves p s t cs ds size half own = (both_runs p cs ds (record { size = size; half = half }) own).left.half

-- TWO CLEARED RUNS: after a clear this holds whatever the two shelves held
pub two_runs_cleared : (p : ℕ) (s t : List ℕ) (cs ds : List Call) → length s ≡ length t → own_calls p cs ≡ own_calls p ds
    → (seen p s (Clear ∷ cs) ≡ seen p t (Clear ∷ ds)) × (half_of p (after_all s (Clear ∷ cs)) ≡ half_of p (after_all t (Clear ∷ ds)))
unfolding seen after_all
two_runs_cleared p s t cs ds size own =
    let clear = same_clear s t size in
    let after = both_runs p cs ds {s = (step Clear s).bytes} {t = (step Clear t).bytes} (record { size = cc; half = cc }) own in
    (cc, after.left.half)
