-- What is accepted is canonical, and what is canonical is not refused.
use mathlib.Core.Path.{◌≡◌, refl, ap, ◌∙◌}
use mathlib.Core.Bool.{Bool, true, ◌&&◌, not}
use mathlib.Core.List.{List, [], ◌∷◌}
use Prim.Native.Nat.{ℕ, suc, ◌^◌, ◌≤◌}
use native.Mathlib.Omega.{arith}
use lib.Dec.{eqb, ltb, leb}
use lib.IntN.{ℤ, pos, negsuc, nat_abs}
use borrow.Author.Tests.{ne_eqb, lt-ltb, eqb-false, ltb-true, leb-true, not-true}
use Rattle.modes.proofs.Bools.{and_l, and_r}
use Rattle.modes.specs.declared.Term.{Term}
use Rattle.modes.specs.declared.Refusal.{Refusal}
use Rattle.std.specs.Prelude.{Ok, Err}
use Rattle.modes.specs.declared.Reason.TheVariants.{Malformed, WordOutside, OutOfOrder, ZeroCoeff, TooHeavy}
use Rattle.modes.specs.Answers.{refusal, none as unrefused}
use Rattle.modes.specs.Every.{Every, none, more}
use Rattle.record.specs.Terms.{before, Above, Ascending, empty, above, weight}
use Rattle.record.specs.Layout.{laid_out, modes_of, count_of, terms_in, terms_of}
use Rattle.modes.specs.Refusals.{or_else, need}
use Rattle.modes.specs.Spaces.{inside}
use Rattle.record.specs.Refusals.{term_refusal, terms_refusal, refusal_of, accepted_record, checked_of}
use Rattle.record.specs.Reading.{Holds, Sound}
use Rattle.record.specs.Canonical.{Inside, Nonzero, Canonical}
use Rattle.record.specs.declared.Checked.{Checked}
use Rattle.modes.proofs.Refusals.{or_second, neither, not_refused, refused_by, needed}
use Rattle.record.proofs.Order.{above_trans}
use Rattle.record.proofs.Header.{Laid, laid}
use Rattle.record.proofs.Reading.{length_terms}

pub abs_zero : (z : ℤ) → nat_abs z ≡ 0 → z ≡ pos 0
abs_zero (pos n) e = ap pos e
abs_zero (negsuc n) e = absurd (omega arith)

abs_nonzero : (z : ℤ) → (z ≡ pos 0 → ⊥) → nat_abs z ≡ 0 → ⊥
abs_nonzero z h e = h (abs_zero z e)

-- a term that may stand where it stands
pub record Right (m : ℕ) (up : Bool) (t : Term) : Type 0 where
  pub inside : Inside m t
  pub above : up ≡ true
  pub nonzero : Nonzero t

pub term_right : (o m i : ℕ) (up : Bool) (t : Term) → term_refusal o m i up t ≡ unrefused → Right m up t
unfolding term_refusal inside
term_right o m i up t e =
    let first = neither (need (inside m t.cre t.ann) (refusal WordOutside o i)) _ e in
    let rest = neither (need up (refusal OutOfOrder o i)) _ first.1 in
    let held = needed (ltb t.ann (2 ^ m) && ltb t.cre (2 ^ m)) (refusal WordOutside o i) first.0 in
    record {
      inside = record { ann = ltb-true _ _ (and_l (ltb t.ann (2 ^ m)) _ held); cre = ltb-true _ _ (and_r (ltb t.ann (2 ^ m)) _ held) };
      above = needed up (refusal OutOfOrder o i) rest.0;
      nonzero = λ h. eqb-false _ _ (not-true _ (needed (not (eqb (nat_abs t.coeff) 0)) (refusal ZeroCoeff o i) rest.1)) (ap nat_abs h);
    }

right_none : (o m i : ℕ) (up : Bool) (t : Term) → Right m up t → term_refusal o m i up t ≡ unrefused
unfolding term_refusal inside or_else
right_none o m i up t r =
    rw (lt-ltb _ _ r.inside.ann, lt-ltb _ _ r.inside.cre, r.above, ne_eqb _ _ (abs_nonzero t.coeff r.nonzero))

-- the first term may stand where it stands
abbrev pub Begins : (Term → Bool) → List Term → Type 0
Begins up [] = Unit {0}
Begins up (t ∷ ts) = up t ≡ true

above_all : (t : Term) (ts : List Term) → Begins (before t) ts → Ascending ts → Above t ts
above_all t [] h empty = none
above_all t (u ∷ ts) h (above a s) = more h (above_trans t u ts h a)

above_first : (t : Term) (ts : List Term) → Above t ts → Begins (before t) ts
above_first t [] none = tt
above_first t (u ∷ ts) (more h a) = h

record AllRight (m : ℕ) (up : Term → Bool) (ts : List Term) : Type 0 where
  pub begins : Begins up ts
  pub inside : Every (Inside m) ts
  pub ascending : Ascending ts
  pub nonzero : Every Nonzero ts

all_right : (o m i : ℕ) (up : Term → Bool) (ts : List Term) → terms_refusal o m i up ts ≡ unrefused → AllRight m up ts
unfolding terms_refusal
all_right o m i up [] e = record { begins = tt; inside = none; ascending = empty; nonzero = none }
all_right o m i up (t ∷ ts) e =
    let both = neither (term_refusal o m i (up t) t) (terms_refusal o m (suc i) (before t) ts) e in
    let first = term_right o m i (up t) t both.0 in
    let rest = all_right o m (suc i) (before t) ts both.1 in
    record {
      begins = first.above;
      inside = more first.inside rest.inside;
      ascending = above (above_all t ts rest.begins rest.ascending) rest.ascending;
      nonzero = more first.nonzero rest.nonzero;
    }

pub none_refused : (o m i : ℕ) (up : Term → Bool) (ts : List Term) → Begins up ts → Every (Inside m) ts → Ascending ts → Every Nonzero ts
    → terms_refusal o m i up ts ≡ unrefused
unfolding terms_refusal
none_refused o m i up [] b none empty none = refl
none_refused o m i up (t ∷ ts) b (more h hs) (above a s) (more n ns) =
    rw (right_none o m i (up t) t (record { inside = h; above = b; nonzero = n }))
    (or_second unrefused _ refl ∙ none_refused o m (suc i) (before t) ts (above_first t ts a) hs s ns)

-- ---- the record

module _ (o : ℕ) (l : List ℕ) (e : refusal_of o l ≡ unrefused) where
  laid_fine : need (laid_out l) (refusal Malformed o 0) ≡ unrefused
  unfolding refusal_of
  laid_fine = (neither _ _ e).0

  rest_fine : or_else (terms_refusal o (modes_of l) 0 (λ _. true) (terms_of l)) (need (leb (weight (terms_of l)) (2 ^ 60)) (refusal TooHeavy o 0)) ≡ unrefused
  unfolding refusal_of
  rest_fine = (neither _ _ e).1

  is_laid : laid_out l ≡ true
  is_laid = needed (laid_out l) (refusal Malformed o 0) laid_fine

  is_light : weight (terms_of l) ≤ 2 ^ 60
  is_light = leb-true _ _ (needed (leb (weight (terms_of l)) (2 ^ 60)) (refusal TooHeavy o 0) (neither _ _ rest_fine).1)

  right : AllRight (modes_of l) (λ _. true) (terms_of l)
  right = all_right o (modes_of l) 0 (λ _. true) (terms_of l) (neither _ _ rest_fine).0

  pub accepted_laid : Laid l
  accepted_laid = laid l is_laid

  -- what is accepted ascends, has no zeros, and is in range
  pub accepted_canonical : Canonical (modes_of l) (terms_of l)
  accepted_canonical =
      record {
        some = accepted_laid.some;
        most = accepted_laid.most;
        few = rw (length_terms l (count_of l)) accepted_laid.few;
        inside = right.inside;
        ascending = right.ascending;
        nonzero = right.nonzero;
        light = is_light;
      }

-- its terms can be read, and weigh no more than the ceiling
pub sound : (o : ℕ) (l : List ℕ) (n : ℕ) → refusal_of o l ≡ unrefused → n ≡ count_of l → Sound l n
sound o l n e q = record { size = omega (arith, (accepted_laid o l e).size); light = rw q (accepted_canonical o l e).light }

-- a check that refuses nothing
pub record Accepted (o : ℕ) (l : List ℕ) (c : Checked) : Type 0 where
  pub fine : refusal_of o l ≡ unrefused
  pub laid : Laid l
  pub canonical : Canonical (modes_of l) (terms_of l)
  pub is : c ≡ accepted_record l
  pub held : Sound l c.terms
  -- the terms of the number that the check answers
  pub terms : terms_in l c.terms ≡ terms_of l

pub accepted : (o : ℕ) (l : List ℕ) (c : Checked) → Ok c ≡ checked_of o l → Accepted o l c
accepted o l c e =
    let found = not_refused (accepted_record l) (refusal_of o l) c e in
    let n = found.0 in
    record {
      fine = n;
      laid = accepted_laid o l n;
      canonical = accepted_canonical o l n;
      is = found.1;
      held = sound o l c.terms n (ap (λ (d : Checked). d.terms) found.1);
      terms = ap (λ (d : Checked). terms_in l d.terms) found.1;
    }

-- its terms can be read, and they ascend
pub readable : (o : ℕ) (l : List ℕ) (c : Checked) → Accepted o l c → Holds l c.terms × Ascending (terms_in l c.terms)
readable o l c k = (k.held.size, rw k.terms k.canonical.ascending)

-- a check that refuses tells the record's refusal
pub refused : (o : ℕ) (l : List ℕ) (r : Refusal) → Err r ≡ checked_of o l → refusal_of o l ≡ Err r
refused o l r e = refused_by (accepted_record l) (refusal_of o l) r e
