-- The ways in which an element is answered: refused by the lists, a term, the bra or the ket, or by the sums; and one part out of two that are the same.
use mathlib.Core.Path.{◌≡◌, refl, sym, ◌∙◌}
use mathlib.Core.Bool.{Bool, true, false, and_self_left}
use mathlib.Core.List.{List, [], ◌∷◌}
use Prim.Native.Nat.{ℕ, suc}
use lib.Dec.{eqb}
use lib.ListN.{length, get_or, take}
use lib.Ieee.{Float, nan}
use lib.Ieee.Scale.{finite}
use Rattle.std.specs.Prelude.{Ok, Err}
use Rattle.modes.specs.Answers.{Verdict, refusal, none}
use Rattle.modes.specs.declared.Reason.TheVariants.{Malformed}
use Rattle.modes.specs.declared.Refusal.{Refusal}
use Rattle.modes.proofs.Refusals.{or_second, first_refuses}
use Rattle.modes.specs.Refusals.{or_else, first_refusal, unless, answered}
use Rattle.modes.specs.Spaces.{words_refusal}
use Rattle.float_elem.specs.Sums.{sum_to}
use Rattle.float_elem.specs.Answers.{Told}
use Rattle.float_elem.specs.Elements.{all_finite, listed, float_term_refusal, term_at, input_refusal, sum_at, sum_refusal, summed, float_element}

module _ (m : ℕ) (cre ann : List ℕ) (parts : List (List Float)) (bra ket : ℕ) where
  refused : (r : Refusal) → input_refusal m cre ann parts bra ket ≡ Err r → Err r ≡ float_element m cre ann parts bra ket
  refused r e = first_refuses _ (sum_refusal bra ket cre ann parts) Err _ r e

  module _ (b : Bool) (el : b ≡ listed m cre ann parts) where
    pub lists_refused : b ≡ false → Err (refusal Malformed 1 0) ≡ float_element m cre ann parts bra ket
    unfolding input_refusal or_else
    lists_refused e = refused (refusal Malformed 1 0) (rw (← el, e))

    module _ (yes : b ≡ true) where
      pub term_refused : (r : Refusal) → Err r ≡ first_refusal (term_at m cre ann parts) (length cre) → Err r ≡ float_element m cre ann parts bra ket
      unfolding input_refusal or_else
      term_refused r et = refused r (rw (← el, yes, ← et))

      module _ (et : none ≡ first_refusal (term_at m cre ann parts) (length cre)) where
        words_next : (v : Verdict) → v ≡ words_refusal m bra ket → input_refusal m cre ann parts bra ket ≡ v
        unfolding input_refusal or_else
        words_next v ew = rw (← el, yes, ← et) (sym ew)

        pub word_refused : (r : Refusal) → Err r ≡ words_refusal m bra ket → Err r ≡ float_element m cre ann parts bra ket
        word_refused r ew = refused r (words_next (Err r) ew)

        pub sums_decide : none ≡ words_refusal m bra ket → (t : Told) → t ≡ summed bra ket cre ann parts → t ≡ float_element m cre ann parts bra ket
        sums_decide ew t e =
            e ∙ rw (or_second (input_refusal m cre ann parts bra ket) (sum_refusal bra ket cre ann parts) (words_next none ew))

-- ---- one part

abbrev one_part : Told → Told
one_part (Ok xs) = Ok (take 1 xs)
one_part (Err r) = Err r

answered_one : (v : Verdict) (x y : Float) → answered v (x ∷ []) ≡ one_part (answered v (x ∷ y ∷ []))
unfolding unless
answered_one (Ok t) x y = refl
answered_one (Err r) x y = refl

finite_twice : (x : Float) → all_finite (x ∷ x ∷ []) ≡ all_finite (x ∷ [])
finite_twice x = and_self_left (finite x) true

-- the same list for both parts: what refuses two refuses one, and the first of their sums is the one sum
module _ (m : ℕ) (cre ann : List ℕ) (cs : List Float) (bra ket : ℕ) where
  listed_twice : listed m cre ann (cs ∷ cs ∷ []) ≡ listed m cre ann (cs ∷ [])
  unfolding listed
  listed_twice = rw (and_self_left (eqb (length cs) (length cre)) true)

  terms_twice : first_refusal (term_at m cre ann (cs ∷ cs ∷ [])) (length cre) ≡ first_refusal (term_at m cre ann (cs ∷ [])) (length cre)
  unfolding float_term_refusal
  terms_twice =
      let same : (i : ℕ) → term_at m cre ann (cs ∷ cs ∷ []) i ≡ term_at m cre ann (cs ∷ []) i = λ i. rw (finite_twice (get_or cs i nan)) in
      λ j. first_refusal (λ i. same i j) (length cre)

  inputs_twice : input_refusal m cre ann (cs ∷ cs ∷ []) bra ket ≡ input_refusal m cre ann (cs ∷ []) bra ket
  unfolding input_refusal
  inputs_twice = rw (listed_twice, terms_twice)

  sums_twice : sum_refusal bra ket cre ann (cs ∷ cs ∷ []) ≡ sum_refusal bra ket cre ann (cs ∷ [])
  unfolding sum_refusal
  sums_twice =
      let same : (i : ℕ) → sum_at bra ket cre ann (cs ∷ cs ∷ []) i ≡ sum_at bra ket cre ann (cs ∷ []) i =
      λ i. rw (finite_twice (sum_to bra ket cre ann cs (suc i))) in
      λ j. first_refusal (λ i. same i j) (length cre)

  pub one_of_two : (t : Told) → t ≡ float_element m cre ann (cs ∷ cs ∷ []) bra ket → one_part t ≡ float_element m cre ann (cs ∷ []) bra ket
  one_of_two t h = rw (h, inputs_twice, sums_twice) (sym (answered_one _ _ _))
