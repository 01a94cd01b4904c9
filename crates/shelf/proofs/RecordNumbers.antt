-- A record's own refusals have the numbers 1 to 5, and so none of the shelf's own, 18 to 22.
use mathlib.Core.Bool.{Bool, true, false, not}
use mathlib.Core.List.{List, [], ◌∷◌}
use Prim.Native.Nat.{ℕ, suc, ◌^◌, ◌≤◌}
use native.Mathlib.Omega.{arith}
use lib.Dec.{eqb, leb}
use lib.IntN.{nat_abs}
use Rattle.std.specs.Prelude.{Ok, Err}
use Rattle.modes.specs.declared.Reason.TheVariants.{Malformed, WordOutside, OutOfOrder, ZeroCoeff, TooHeavy}
use Rattle.modes.specs.declared.Refusal.{Refusal}
use Rattle.modes.specs.declared.Term.{Term}
use Rattle.modes.specs.Reasons.{number_of}
use Rattle.modes.specs.Answers.{Verdict, refusal, number_in}
use Rattle.modes.specs.Refusals.{need, or_else}
use Rattle.modes.specs.Spaces.{inside}
use Rattle.record.specs.Terms.{before, weight}
use Rattle.record.specs.Layout.{laid_out, modes_of, terms_of}
use Rattle.record.specs.Refusals.{term_refusal, terms_refusal, refusal_of}

-- the first of two refusals has a number up to k where both have
pub or_up_to : {k : ℕ} (r s : Verdict) → number_in r ≤ k → number_in s ≤ k → number_in (or_else r s) ≤ k
unfolding or_else
or_up_to (Ok x) s first second = second
or_up_to (Err r) s first second = first

-- and so has one that a test may leave out
pub need_up_to : {k : ℕ} (b : Bool) (r : Refusal) → number_of r.reason ≤ k → number_in (need b r) ≤ k
need_up_to true r h = omega arith
need_up_to false r h = h

-- a term gives 2, 3 or 4
term_number : (o m i : ℕ) (up : Bool) (t : Term) → number_in (term_refusal o m i up t) ≤ 5
unfolding term_refusal
term_number o m i up t =
    or_up_to _ _ (need_up_to (inside m t.cre t.ann) (refusal WordOutside o i) (omega arith))
    (or_up_to _ _ (need_up_to up (refusal OutOfOrder o i) (omega arith)) (need_up_to (not (eqb (nat_abs t.coeff) 0)) (refusal ZeroCoeff o i) (omega arith)))

terms_number : (o m i : ℕ) (up : Term → Bool) (ts : List Term) → number_in (terms_refusal o m i up ts) ≤ 5
unfolding terms_refusal
terms_number o m i up [] = omega arith
terms_number o m i up (t ∷ ts) = or_up_to _ _ (term_number o m i (up t) t) (terms_number o m (suc i) (before t) ts)

-- THE RECORD'S NUMBERS: no refusal of a record has a number above 5
pub record_number : (o : ℕ) (a : List ℕ) → number_in (refusal_of o a) ≤ 5
unfolding refusal_of
record_number o a =
    or_up_to _ _ (need_up_to (laid_out a) (refusal Malformed o 0) (omega arith))
    (or_up_to _ _ (terms_number o (modes_of a) 0 (λ _. true) (terms_of a))
    (need_up_to (leb (weight (terms_of a)) (2 ^ 60)) (refusal TooHeavy o 0) (omega arith)))
