-- Which number refuses a list of bytes that is given as a record, with the operand o and the place; and what the check answers.
use Rattle.std.specs.Prelude.{ℕ, suc, ◌^◌, Result, Bool, true, not, List, [], ◌∷◌, eqb, leb, nat_abs}
use Rattle.modes.specs.Refusals.{need, or_else, answered}
use Rattle.modes.specs.Spaces.{inside}
use Rattle.modes.specs.declared.Term.{Term}
use Rattle.modes.specs.declared.Refusal.{Refusal}
use Rattle.modes.specs.Answers.{Verdict, refusal, none}
use Rattle.modes.specs.declared.Reason.TheVariants.{Malformed, WordOutside, OutOfOrder, ZeroCoeff, TooHeavy}
use Rattle.record.specs.Terms.{before, weight}
use Rattle.record.specs.Layout.{laid_out, modes_of, count_of, terms_of}
use Rattle.record.specs.declared.Checked.{Checked}

-- 2, 3 and 4 of the i-th term; up says that it is the first or above the one before it
unfoldable pub term_refusal : ℕ → ℕ → ℕ → Bool → Term → Verdict
term_refusal o m i up t =
    or_else (need (inside m t.cre t.ann) (refusal WordOutside o i))
    (or_else (need up (refusal OutOfOrder o i)) (need (not (eqb (nat_abs t.coeff) 0)) (refusal ZeroCoeff o i)))

-- the first refusal of the terms from the i-th on; up tells which terms may stand there
unfoldable pub terms_refusal : ℕ → ℕ → ℕ → (Term → Bool) → List Term → Verdict
terms_refusal o m i up [] = none
terms_refusal o m i up (t ∷ ts) = let later = terms_refusal o m (suc i) (before t) ts in or_else (term_refusal o m i (up t) t) later

-- 1; then term by term 2, 3 and 4; then 5
unfoldable pub refusal_of : ℕ → List ℕ → Verdict
refusal_of o l =
    or_else (need (laid_out l) (refusal Malformed o 0))
    (or_else (terms_refusal o (modes_of l) 0 (λ _. true) (terms_of l)) (need (leb (weight (terms_of l)) (2 ^ 60)) (refusal TooHeavy o 0)))

-- what is told of an accepted record
abbrev pub accepted_record : List ℕ → Checked
accepted_record l = record { modes = modes_of l; terms = count_of l; weight = weight (terms_of l) }

abbrev pub checked_of : ℕ → List ℕ → Result Checked Refusal
checked_of o l = answered (refusal_of o l) (accepted_record l)
