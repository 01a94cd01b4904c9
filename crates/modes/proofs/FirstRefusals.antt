-- The first refusal of those at the places of a list, place by place.
use mathlib.Core.Path.{◌≡◌, refl, sym, ap, ◌∙◌}
use mathlib.Core.Logic.{⊎_elim}
use Prim.Native.Nat.{ℕ, zero, suc, ◌+◌, ◌-◌, ◌<◌}
use native.Mathlib.Nat.{add-zero, add-suc}
use native.Mathlib.Numerals.{add-one}
use native.Mathlib.Omega.{arith}
use Rattle.std.specs.Prelude.{Err}
use Rattle.modes.specs.Answers.{Verdict, none}
use Rattle.modes.specs.declared.Refusal.{Refusal}
use Rattle.modes.proofs.Digits.{lt_or_ge}
use Rattle.modes.proofs.Refusals.{the_first, or_second, neither}
use Rattle.modes.specs.Refusals.{first_refusal}

module _ (f : ℕ → Verdict) where
  pub first_starts : first_refusal f 0 ≡ none
  unfolding first_refusal
  first_starts = refl

  -- where there is none, none of them refuses
  pub first_none : (n i : ℕ) → first_refusal f n ≡ none → i < n → f i ≡ none
  unfolding first_refusal
  first_none zero i z l = absurd (omega arith)
  first_none (suc n) i z l =
      let both = neither (first_refusal f n) (f n) z in
      ⊎_elim (λ h. first_none n i both.0 h) (λ h. let e : n ≡ i = omega arith in ap f (sym e) ∙ both.1) (lt_or_ge i n)

  module _ (i : ℕ) (so : first_refusal f i ≡ none) where
    next : first_refusal f (i + 1) ≡ f i
    unfolding first_refusal
    next = rw add-one (or_second (first_refusal f i) (f i) so)

    pub first_goes : f i ≡ none → first_refusal f (i + 1) ≡ none
    first_goes e = next ∙ e

    pub first_ends : (n : ℕ) → i ≡ n → none ≡ first_refusal f n
    first_ends n e = sym (ap (first_refusal f) (sym e) ∙ so)

    module _ (r : Refusal) (e : Err r ≡ f i) where
      later : (k : ℕ) → Err r ≡ first_refusal f (i + 1 + k)
      unfolding first_refusal
      later zero = rw (add-zero (i + 1)) (e ∙ sym next)
      later (suc k) = rw (add-suc (i + 1) k) (the_first _ _ r (later k))

      -- the first one that refuses stays the first
      pub first_stays : (n : ℕ) → i < n → Err r ≡ first_refusal f n
      first_stays n l =
          let q : i + 1 + (n - (i + 1)) ≡ n = omega arith in
          later (n - (i + 1)) ∙ ap (first_refusal f) q
