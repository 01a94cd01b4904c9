-- The check's walk over the terms: what holds between two turns, and what each way out shows.
use mathlib.Core.Path.{◌≡◌, refl, ◌∙◌, sym}
use mathlib.Core.Bool.{true, false}
use mathlib.Core.List.{List, [], ◌∷◌}
use Prim.Native.Nat.{ℕ, suc, ◌+◌, ◌^◌, ◌≤◌, ◌<◌}
use native.Mathlib.Omega.{arith}
use native.Mathlib.Numerals.{add-one}
use lib.IntN.{nat_abs}
use lib.ListN.{drop}
use borrow.Author.Tests.{le-leb, lt-leb}
use Rattle.modes.specs.declared.Term.{Term}
use Rattle.modes.specs.declared.Refusal.{Refusal}
use Rattle.std.specs.Prelude.{Option, Some, None, Result, Ok, Err}
use Rattle.modes.specs.declared.Reason.TheVariants.{Malformed, TooHeavy}
use Rattle.modes.specs.Answers.{Verdict, refusal, none}
use Rattle.record.specs.Terms.{before, follows, weight}
use Rattle.record.specs.Layout.{laid_out, modes_of, count_of, terms_in}
use Rattle.modes.specs.Refusals.{or_else}
use Rattle.record.specs.Refusals.{term_refusal, terms_refusal, refusal_of, checked_of, accepted_record}
use Rattle.record.specs.Reading.{At}
use Rattle.record.specs.Weights.{heavier_by}
use Rattle.record.specs.declared.Checked.{Checked}
use Rattle.modes.proofs.Refusals.{or_first, or_second, unless_so, unless_not}
use Rattle.record.proofs.Weights.{Weighs, weighs_start, weighs_more}

pub weight_front : (ts us : List Term) (t : Term) → ts ≡ t ∷ us → weight ts ≡ nat_abs t.coeff + weight us
unfolding weight
weight_front ts us t e = rw e

pub weight_none : (ts : List Term) → ts ≡ [] → weight ts ≡ 0
unfolding weight
weight_none ts e = rw e

-- before the i-th term: last is the one before it, unless it is the first, and w is the weight so far
pub record Going (o m : ℕ) (ts : List Term) (last : Option Term) (w i : ℕ) : Type 0 where
  pub rest : terms_refusal o m 0 (λ _. true) ts ≡ terms_refusal o m i (follows last) (drop i ts)
  pub weighs : Weighs w (weight (drop i ts)) (weight ts)

module _ (o m : ℕ) (ts : List Term) where
  pub begin : Going o m ts None 0 0
  begin = record { rest = refl; weighs = weighs_start (weight ts) }

  module _ (last : Option Term) (w i : ℕ) (g : Going o m ts last w i) where
    module _ (t : Term) (at : At ts i t) (r : Verdict) (er : r ≡ term_refusal o m i (follows last t) t) where
      turn : terms_refusal o m 0 (λ _. true) ts ≡ or_else r (terms_refusal o m (suc i) (before t) (drop (i + 1) ts))
      unfolding terms_refusal
      turn = g.rest ∙ rw (at, ← er)

      pub refuses : (r ≡ none → ⊥) → r ≡ terms_refusal o m 0 (λ _. true) ts
      refuses h = sym (turn ∙ or_first r _ h)

      pub goes : r ≡ none → (k : ℕ) → k ≡ nat_abs t.coeff → Going o m ts (Some t) (heavier_by k w) (i + 1)
      goes h k ek =
          let split : weight (drop i ts) ≡ k + weight (drop (i + 1) ts) = weight_front _ _ t at ∙ rw ek in
          record { rest = turn ∙ or_second r _ h ∙ rw add-one; weighs = weighs_more w k _ _ (rw split at g.weighs) }

    -- all terms looked at
    module _ (done : drop i ts ≡ []) where
      pub none_refused : terms_refusal o m 0 (λ _. true) ts ≡ none
      unfolding terms_refusal
      none_refused = g.rest ∙ rw done

      pub total : w ≤ 2 ^ 60 → w ≡ weight ts
      total h = omega (arith, g.weighs.exact h, weight_none _ done)

      pub too_heavy : 2 ^ 60 < w → 2 ^ 60 < weight ts
      too_heavy h = g.weighs.over h

-- ---- the answers

pub refused_is : (o : ℕ) (l : List ℕ) (r : Refusal) → refusal_of o l ≡ Err r → Err r ≡ checked_of o l
refused_is o l r e = sym (unless_so (refusal_of o l) Err (Ok (accepted_record l)) r e)

pub not_laid : (o : ℕ) (l : List ℕ) → laid_out l ≡ false → refusal_of o l ≡ Err (refusal Malformed o 0)
unfolding refusal_of or_else
not_laid o l e = rw e

-- m and n are the record's own
module _ (o : ℕ) (l : List ℕ) (m n : ℕ) (yes : laid_out l ≡ true) (em : m ≡ modes_of l) (en : n ≡ count_of l) where
  pub term_refused : (r : Refusal) → Err r ≡ terms_refusal o m 0 (λ _. true) (terms_in l n) → Err r ≡ checked_of o l
  unfolding refusal_of or_else
  term_refused r e = refused_is o l r (rw (yes, ← em, ← en, ← e))

  module _ (fine : terms_refusal o m 0 (λ _. true) (terms_in l n) ≡ none) where
    pub heavy_refused : 2 ^ 60 < weight (terms_in l n) → Err (refusal TooHeavy o 0) ≡ checked_of o l
    unfolding refusal_of or_else
    heavy_refused h = refused_is o l (refusal TooHeavy o 0) (rw (yes, ← em, ← en, fine, lt-leb _ _ h))

    pub accepted_is : (w : ℕ) → w ≡ weight (terms_in l n) → w ≤ 2 ^ 60
        → ◌≡◌ {A = Result Checked Refusal} (Ok (record { modes = m; terms = n; weight = w })) (checked_of o l)
    unfolding refusal_of or_else
    accepted_is w e h =
        let k : weight (terms_in l n) ≤ 2 ^ 60 = omega arith in
        let light : refusal_of o l ≡ none = rw (yes, ← em, ← en, fine, le-leb _ _ k) in
        rw (light, ← em, ← en, e) (sym (unless_not none Err _ refl))
