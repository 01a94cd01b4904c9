-- The numbers of a refusal that an answer may have: so small that its line is short, and 11 only where the longest record does not fit.
use mathlib.Core.Path.{◌≡◌, refl, subst}
use mathlib.Core.Bool.{Bool, true, false, cond, not}
use mathlib.Core.List.{List, [], ◌∷◌}
use Prim.Native.Nat.{ℕ, suc, ◌+◌, ◌*◌, ◌^◌, ◌≤◌, ◌<◌}
use native.Mathlib.Omega.{arith}
use lib.Dec.{eqb, leb}
use lib.IntN.{nat_abs}
use lib.ListN.{length, length-append}
use borrow.Author.Tests.{leb-true, leb-false}
use Rattle.record.specs.Operands.{read_as}
use Rattle.modes.specs.declared.Term.{Term}
use Rattle.modes.specs.declared.Refusal.{Refusal}
use Rattle.std.specs.Prelude.{Result, Ok, Err}
use Rattle.modes.specs.Reasons.{number_of}
use Rattle.modes.specs.declared.Reason.{Reason}
use Rattle.modes.specs.declared.Reason.TheVariants.{Malformed, WordOutside, OutOfOrder, ZeroCoeff, TooHeavy, ModesDiffer, RowsDoNotFit, ProductTooHeavy, ResultTooHeavy, TooManyTerms}
use Rattle.modes.specs.Answers.{Verdict, refusal, modes_differ, product_too_heavy, rows_do_not_fit, output_too_short, too_many_terms, result_too_heavy}
use Rattle.lent.specs.Outputs.{Output, refused_output, filled_output}
use Rattle.record.specs.Terms.{before, weight}
use Rattle.record.specs.Layout.{laid_out, modes_of, count_of, terms_of, record_length}
use Rattle.modes.specs.Refusals.{or_else, need, unless}
use Rattle.modes.specs.Spaces.{inside}
use Rattle.record.specs.Refusals.{term_refusal, terms_refusal, refusal_of}
use Rattle.record.proofs.Header.{laid}
use Rattle.record.proofs.Reading.{length_terms}
use Rattle.results.specs.Results.{operands_refusal, result_refusal}
use Rattle.decimals.proofs.Decimals.{decimal_length}
use Rattle.multiply.specs.Answers.{weight_refusal, work_refusal, commutator_of}
use Rattle.reply.specs.Lines.{refused_line}
use Rattle.reply.specs.Replies.{holds_first, answer_to}

pub record Lawful (room : ℕ) (f : Refusal) : Type 0 where
  pub number : number_of f.reason ≤ 11
  pub operand : f.operand ≤ 2
  pub place : f.place ≤ 2048
  pub eleven : number_of f.reason ≡ 11 → room < 49184

-- two digits, one and four
pub lawful_line : {room : ℕ} (f : Refusal) → Lawful room f → length (refused_line f) ≤ 18
unfolding refused_line
lawful_line f h =
    let number = decimal_length 1 (number_of f.reason) (omega (arith, h.number)) in
    let operand = decimal_length 0 f.operand (omega (arith, h.operand)) in
    let place = decimal_length 3 f.place (omega (arith, h.place)) in
    simp length-append (omega arith)

-- what refuses, if anything does, is such a refusal
abbrev pub Within : {A : Type 0} → ℕ → Result A Refusal → Type 0
Within room v = (f : Refusal) → v ≡ Err f → Lawful room f

err_same : {A : Type 0} {f g : Refusal} → ◌≡◌ {A = Result A Refusal} (Err f) (Err g) → f ≡ g
err_same e = cc

module _ {room : ℕ} where
  plain : (k : Reason) (o i : ℕ) → number_of k ≤ 10 → o ≤ 2 → i ≤ 2048 → Lawful room (refusal k o i)
  plain k o i h p q = record { number = omega arith; operand = p; place = q; eleven = λ e. absurd (omega arith) }

  is_lawful : {A : Type 0} (g : Refusal) → Lawful room g → Within {A = A} room (Err g)
  is_lawful g h f e = subst (Lawful room) (err_same e) h

  lawful_need : (s : Bool) (f : Refusal) → Lawful room f → Within room (need s f)
  lawful_need true f h = λ g e. cc
  lawful_need false f h = is_lawful f h

  lawful_or : (r s : Verdict) → Within room r → Within room s → Within room (or_else r s)
  unfolding or_else
  lawful_or (Ok x) s h k = k
  lawful_or (Err r) s h k = h

  -- a first test, and what is looked at only once it has passed
  lawful_test : (s : Bool) (f : Refusal) (later : Verdict) → Lawful room f → (s ≡ true → Within room later) → Within room (or_else (need s f) later)
  unfolding or_else
  lawful_test true f later h k = k refl
  lawful_test false f later h k = is_lawful f h

  -- ---- a record

  module _ (o : ℕ) (ho : o ≤ 2) where
    lawful_term : (m i : ℕ) (up : Bool) (t : Term) → i ≤ 2048 → Within room (term_refusal o m i up t)
    unfolding term_refusal
    lawful_term m i up t hi =
        lawful_or (need (inside m t.cre t.ann) (refusal WordOutside o i)) _ (lawful_need (inside m t.cre t.ann) (refusal WordOutside o i) (plain WordOutside o i (omega arith) ho hi))
        (lawful_or (need up (refusal OutOfOrder o i)) _ (lawful_need up (refusal OutOfOrder o i) (plain OutOfOrder o i (omega arith) ho hi))
        (lawful_need (not (eqb (nat_abs t.coeff) 0)) (refusal ZeroCoeff o i) (plain ZeroCoeff o i (omega arith) ho hi)))

    lawful_terms : (m i : ℕ) (up : Term → Bool) (ts : List Term) → i + length ts ≤ 2048 → Within room (terms_refusal o m i up ts)
    unfolding terms_refusal
    lawful_terms m i up [] h = λ f e. cc
    lawful_terms m i up (t ∷ ts) h =
        lawful_or (term_refusal o m i (up t) t) (terms_refusal o m (suc i) (before t) ts) (lawful_term m i (up t) t (omega arith))
        (lawful_terms m (suc i) (before t) ts (omega arith))

    lawful_record : (l : List ℕ) → Within room (refusal_of o l)
    unfolding refusal_of
    lawful_record l =
        lawful_test (laid_out l) (refusal Malformed o 0) _ (plain Malformed o 0 (omega arith) ho (omega arith))
        (λ e. lawful_or (terms_refusal o (modes_of l) 0 (λ _. true) (terms_of l)) _
        (lawful_terms (modes_of l) 0 (λ _. true) (terms_of l) (omega (arith, (laid l e).few, length_terms l (count_of l))))
        (lawful_need (leb (weight (terms_of l)) (2 ^ 60)) (refusal TooHeavy o 0) (plain TooHeavy o 0 (omega arith) ho (omega arith))))

  -- ---- a call

  lawful_result : (n w : ℕ) → Within room (result_refusal room n w)
  unfolding result_refusal
  lawful_result n w =
      lawful_test (leb n 2048) too_many_terms _ (plain TooManyTerms 0 0 (omega arith) (omega arith) (omega arith))
      (λ e. lawful_or (need (leb w (2 ^ 60)) result_too_heavy) _ (lawful_need (leb w (2 ^ 60)) result_too_heavy (plain ResultTooHeavy 0 0 (omega arith) (omega arith) (omega arith)))
      (longer (leb (record_length n) room) refl (leb-true n 2048 e)))
    where
      longer : (s : Bool) → leb (record_length n) room ≡ s → n ≤ 2048 → Within room (need s output_too_short)
      longer true e h = λ f q. cc
      longer false e h = is_lawful output_too_short (record { number = omega arith; operand = omega arith; place = omega arith; eleven = λ _. omega (arith, leb-false (record_length n) room e) })

  lawful_pair : (a b : List ℕ) → Within room (operands_refusal (read_as 1 a) (read_as 2 b))
  lawful_pair a b =
      lawful_or (refusal_of 1 a) _ (lawful_record 1 (omega arith) a)
      (lawful_or (refusal_of 2 b) _ (lawful_record 2 (omega arith) b)
      (lawful_need (eqb (modes_of a) (modes_of b)) modes_differ (plain ModesDiffer 0 0 (omega arith) (omega arith) (omega arith))))

  lawful_weight : (v w : ℕ) → Within room (weight_refusal v w)
  unfolding weight_refusal
  lawful_weight v w = lawful_need (leb (v * w) (2 ^ 60)) product_too_heavy (plain ProductTooHeavy 0 0 (omega arith) (omega arith) (omega arith))

  lawful_work : (work branches : ℕ) → Within room (work_refusal work branches)
  unfolding work_refusal
  lawful_work work branches = lawful_need (leb (24 * branches) work) rows_do_not_fit (plain RowsDoNotFit 0 0 (omega arith) (omega arith) (omega arith))

  lawful_output : (r : Verdict) (branches : ℕ) (bs : List ℕ) → Within room r → Within room (unless r (refused_output room) (filled_output room branches bs)).answer
  unfolding unless
  lawful_output (Ok x) branches bs h = λ f e. cc
  lawful_output (Err r) branches bs h = is_lawful r (h r refl)

  lawful_commutator : (work : ℕ) (a b : List ℕ) → Within room (commutator_of work room (read_as 1 a) (read_as 2 b)).answer
  lawful_commutator work a b =
      lawful_output _ _ _
      (lawful_or _ _ (lawful_or (operands_refusal (read_as 1 a) (read_as 2 b)) _ (lawful_pair a b)
      (lawful_or (weight_refusal (weight (terms_of a)) (weight (terms_of b))) _ (lawful_weight _ _) (lawful_work work _)))
      (lawful_result _ _))

pub lawful_answer : (work room : ℕ) (input : List ℕ) → Within room (answer_to work room input).answer
unfolding answer_to
lawful_answer work room input = go (holds_first input) _ (lawful_commutator work _ _)
  where
    go : (s : Bool) (o : Output) → Within room o.answer → Within room (cond s o (refused_output room (refusal Malformed 1 0))).answer
    go true o h = h
    go false o h = is_lawful _ (plain Malformed 1 0 (omega arith) (omega arith) (omega arith))
