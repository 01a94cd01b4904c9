-- What a walk that ended shows of the record.
use Rattle.std.proofs.Common.{◌≡◌, ℕ, ◌^◌, ◌<◌, ◌≤◌, Bool, true, false, ltb, List, [], length, drop, refl, sym, ◌∙◌, ⊎_elim, true≢false, arith, ltb-true, lt-ltb, le-leb, leb-true}
use Rattle.modes.specs.declared.Term.{Term}
use Rattle.modes.specs.declared.Refusal.{Refusal}
use Rattle.std.specs.Prelude.{Result, Ok, Err}
use Rattle.modes.specs.declared.Reason.TheVariants.{TooHeavy}
use Rattle.modes.specs.Answers.{Verdict, refusal, none}
use Rattle.modes.proofs.Bools.{and_l, and_r}
use Rattle.modes.proofs.Digits.{lt_or_ge}
use Rattle.record.specs.Terms.{weight}
use Rattle.record.specs.Layout.{laid_out, modes_of, count_of, terms_in}
use Rattle.record.specs.Refusals.{terms_refusal, checked_of}
use Rattle.record.specs.declared.Checked.{Checked}
use Rattle.record.proofs.Checking.{term_refused, heavy_refused, accepted_is, weight_none}
use Rattle.record.proofs.Reading.{none_left}
use Rattle.tally.specs.Walks.{is_light, Seeing, Refuses, Judges}
use Rattle.tally.specs.declared.Reached.{Reached}
use Rattle.tally.specs.declared.Seen.{Seen}
use Rattle.tally.proofs.Seeing.{next_refuses}

none_left_refused : (m i : ℕ) (up : Term → Bool) (ts : List Term) → ts ≡ [] → terms_refusal 1 m i up ts ≡ none
unfolding terms_refusal
none_left_refused m i up ts e = rw e

-- a walk over terms that is refused where it ended did not go to the end, and one that is not did
module _ (m : ℕ) (ts : List Term) (w : Reached) where
  pub ended_early : (r : Refusal) → Judges m ts w (Err r) → Refuses m ts w.seen w.place (Err r)
  ended_early r j = ⊎_elim j.early (λ h. let never = j.whole h in cc) (lt_or_ge w.place (length ts))

  pub ended_whole : ((r : Verdict) → w.place < length ts → Refuses m ts w.seen w.place r → r ≡ none → ⊥) → (x : Unit {0}) → Judges m ts w (Ok x)
      → length ts ≤ w.place
  ended_whole some x j = ⊎_elim (λ h. absurd (some (Ok x) h (j.early h) refl)) (λ h. h) (lt_or_ge w.place (length ts))

-- of the bytes l
module _ (l : List ℕ) (m n : ℕ) (yes : laid_out l ≡ true) (em : m ≡ modes_of l) (en : n ≡ count_of l) (s : Seen) (i : ℕ) (g : Seeing m (terms_in l n) s i) where
  -- at a term that is refused
  pub stopped_is : (r : Refusal) → Refuses m (terms_in l n) s i (Err r) → Err r ≡ checked_of 1 l
  stopped_is r h = term_refused 1 l m n yes em en r (sym (next_refuses m (terms_in l n) s i g (Err r) h (λ z. cc)))

  -- behind the last term
  module _ (done : n ≤ i) where
    none_left_here : drop i (terms_in l n) ≡ []
    none_left_here = none_left l n i done

    fine : terms_refusal 1 m 0 (λ _. true) (terms_in l n) ≡ none
    fine = g.rest ∙ none_left_refused m i _ _ none_left_here

    pub light_is : is_light s ≡ true → ◌≡◌ {A = Result Checked Refusal} (Ok (record { modes = m; terms = n; weight = s.weight })) (checked_of 1 l)
    light_is e =
        let exact : s.bits < 2 ^ 61 = ltb-true _ _ (and_l (ltb s.bits (2 ^ 61)) _ e) in
        let light : s.weight ≤ 2 ^ 60 = leb-true _ _ (and_r (ltb s.bits (2 ^ 61)) _ e) in
        accepted_is 1 l m n yes em en fine s.weight (omega (arith, g.exact exact, weight_none _ none_left_here)) light

    pub heavy_is : is_light s ≡ false → Err (refusal TooHeavy 1 0) ≡ checked_of 1 l
    heavy_is e = heavy_refused 1 l m n yes em en fine (⊎_elim (λ h. h) (λ h. absurd (true≢false (sym (light h) ∙ e))) (lt_or_ge (2 ^ 60) (weight (terms_in l n))))
      where
        light : weight (terms_in l n) ≤ 2 ^ 60 → is_light s ≡ true
        light h =
            let low = g.low h in
            rw (lt-ltb s.bits (2 ^ 61) low, le-leb s.weight (2 ^ 60) (omega (arith, g.exact low, h)))
