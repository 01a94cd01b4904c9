-- Theorems on float elements: every value that comes out is finite; and with exactly one joining term it is that term's coefficient, signed, exactly.
use mathlib.Core.Path.{◌≡◌, refl, sym, ap, ap₂, ◌∙◌}
use mathlib.Core.Bool.{Bool, true, false}
use mathlib.Core.List.{List, [], ◌∷◌, map}
use mathlib.Core.Logic.{⊎_elim}
use Prim.Native.Nat.{ℕ, zero, suc, ◌+◌, ◌-◌, ◌≤◌, ◌<◌}
use native.Mathlib.Nat.{add-zero, add-suc}
use native.Mathlib.Numerals.{add-one}
use native.Mathlib.Omega.{arith}
use borrow.Author.Tests.{eq-eqb, ne_eqb}
use lib.Dec.{T}
use lib.ListN.{length, get_or}
use lib.Ieee.{Float, nan, inf, fin, neg, binary64, fits}
use lib.Ieee.Scale.{finite}
use lib.Ieee.Fits.{neg-fits}
use Rattle.std.specs.Prelude.{Ok, Err}
use Rattle.modes.specs.Answers.{refusal, none}
use Rattle.modes.specs.declared.Reason.TheVariants.{WordOutside, NotFinite}
use Rattle.modes.proofs.Bools.{and_l, and_r}
use Rattle.modes.proofs.Digits.{lt_or_ge}
use Rattle.products.specs.PhaseRule.{Outcome, gone, went}
use Rattle.modes.specs.Every.{Every, none as nothing, more}
use Rattle.modes.specs.Refusals.{or_else, first_refusal, need, unless}
use Rattle.modes.specs.Spaces.{inside}
use Rattle.modes.proofs.Refusals.{or_second, neither, needed, either_way}
use Rattle.modes.proofs.FirstRefusals.{first_starts, first_none, first_goes}
use Rattle.float_elem.specs.Sums.{plus_zero, signed_float, added_float, sum_to}
use Rattle.float_elem.specs.Answers.{values_in}
use Rattle.float_elem.specs.Elements.{all_finite, float_term_refusal, term_at, input_refusal, sums_to, sum_at, sum_refusal, float_element}
use Rattle.float_elem.specs.Single.{exactly, Doubles, OnlyJoins}
use Rattle.float_elem.proofs.Exact.{one_term}

-- ---- every value that comes out is finite

module _ (bra ket : ℕ) (cre ann : List ℕ) where
  start_finite : (parts : List (List Float)) → all_finite (sums_to bra ket cre ann parts 0) ≡ true
  unfolding sum_to
  start_finite [] = refl
  start_finite (cs ∷ parts) = start_finite parts

  sums_finite : (parts : List (List Float)) (n : ℕ) → first_refusal (sum_at bra ket cre ann parts) n ≡ none
      → all_finite (sums_to bra ket cre ann parts n) ≡ true
  sums_finite parts zero z = start_finite parts
  sums_finite parts (suc n) z = needed _ (refusal NotFinite 1 n) (first_none (sum_at bra ket cre ann parts) (suc n) n z (omega arith))

pub values_finite : (m : ℕ) (cre ann : List ℕ) (parts : List (List Float)) (bra ket : ℕ) → all_finite (values_in (float_element m cre ann parts bra ket)) ≡ true
unfolding sum_refusal
values_finite m cre ann parts bra ket =
    either_way (or_else (input_refusal m cre ann parts bra ket) (sum_refusal bra ket cre ann parts)) Err (Ok (sums_to bra ket cre ann parts (length cre)))
    (λ t. all_finite (values_in t) ≡ true)
    (λ z. sums_finite bra ket cre ann parts (length cre) (neither _ _ z).1) (λ r e. refl)

-- ---- exactly one joining term

apart : (bra : ℕ) (c x : Float) (o : Outcome) → ((t : Bool) → o ≡ went bra t → ⊥) → added_float bra c x o ≡ x
apart bra c x gone h = refl
apart bra c x (went w s) h = rw (ne_eqb w bra (λ e. h s (ap (λ (v : ℕ). went v s) e)))

signed_fits : (s : Bool) (c : Float) → T (fits binary64 c) → T (fits binary64 (signed_float s c))
signed_fits true c h = neg-fits binary64 c h
signed_fits false c h = h

signed_finite : (s : Bool) (c : Float) → finite c ≡ true → finite (signed_float s c) ≡ true
unfolding neg
signed_finite true nan e = e
signed_finite true (inf s) e = e
signed_finite true (fin s m d) e = refl
signed_finite false c e = e

exactly_finite : (c : Float) → finite c ≡ true → finite (exactly c) ≡ true
exactly_finite nan e = e
exactly_finite (inf s) e = e
exactly_finite (fin s zero d) e = refl
exactly_finite (fin s (suc m) d) e = refl

module _ (bra ket : ℕ) (cre ann : List ℕ) (n i : ℕ) (s : Bool) (only : OnlyJoins bra ket cre ann n i s) where
  abbrev came : List Float → Float
  came cs = exactly (signed_float s (get_or cs i nan))

  -- one part
  module _ (cs : List Float) (doubles : Doubles cs) where
    skips : (k : ℕ) → k < n → (k ≡ i → ⊥) → sum_to bra ket cre ann cs (suc k) ≡ sum_to bra ket cre ann cs k
    unfolding sum_to
    skips k l o = apart bra (get_or cs k nan) _ _ (only.alone k l o)

    before : (k : ℕ) → k ≤ i → sum_to bra ket cre ann cs k ≡ plus_zero
    unfolding sum_to
    before zero l = refl
    before (suc k) l = let h = only.inside in skips k (omega arith) (λ e. absurd (omega arith)) ∙ before k (omega arith)

    joining : sum_to bra ket cre ann cs (suc i) ≡ came cs
    unfolding sum_to
    joining =
        ap (added_float bra (get_or cs i nan) (sum_to bra ket cre ann cs i)) only.joins ∙ rw (before i (omega arith), eq-eqb bra bra refl)
        (one_term _ (signed_fits s (get_or cs i nan) (doubles i)))

    after : (d : ℕ) → suc i + d ≤ n → sum_to bra ket cre ann cs (suc i + d) ≡ came cs
    after zero l = rw (add-zero (suc i)) joining
    after (suc d) l = rw (add-suc (suc i) d) (skips (suc i + d) (omega arith) (λ e. absurd (omega arith)) ∙ after d (omega arith))

    from : (k : ℕ) → i < k → k ≤ n → sum_to bra ket cre ann cs k ≡ came cs
    from k l h = let e : suc i + (k - suc i) ≡ k = omega arith in sym (ap (sum_to bra ket cre ann cs) e) ∙ after (k - suc i) (omega arith)

    finite_so_far : finite (get_or cs i nan) ≡ true → (k : ℕ) → k ≤ n → finite (sum_to bra ket cre ann cs k) ≡ true
    finite_so_far f k h =
        ⊎_elim (λ l. rw (from k l h) (exactly_finite (signed_float s (get_or cs i nan)) (signed_finite s (get_or cs i nan) f)))
        (λ l. rw (before k l)) (lt_or_ge i k)

  -- all parts
  all_so_far : (parts : List (List Float)) → Every Doubles parts → all_finite (map (λ cs. get_or cs i nan) parts) ≡ true → (k : ℕ) → k ≤ n
      → all_finite (sums_to bra ket cre ann parts k) ≡ true
  all_so_far [] nothing f k h = refl
  all_so_far (cs ∷ parts) (more d ds) f k h =
      rw (finite_so_far cs d (and_l (finite (get_or cs i nan)) _ f) k h) (all_so_far parts ds (and_r (finite (get_or cs i nan)) _ f) k h)

  none_stops : (parts : List (List Float)) → Every Doubles parts → all_finite (map (λ cs. get_or cs i nan) parts) ≡ true → (k : ℕ) → k ≤ n
      → first_refusal (sum_at bra ket cre ann parts) k ≡ none
  none_stops parts d f zero h = first_starts _
  none_stops parts d f (suc k) h =
      sym (ap (first_refusal (sum_at bra ket cre ann parts)) (add-one k))
      ∙ first_goes _ k (none_stops parts d f k (omega arith)) (rw (all_so_far parts d f (suc k) h))

  all_came : (parts : List (List Float)) → Every Doubles parts → sums_to bra ket cre ann parts n ≡ map came parts
  all_came [] nothing = refl
  all_came (cs ∷ parts) (more d ds) = ap₂ (λ (x : Float) (xs : List Float). x ∷ xs) (from cs d n only.inside (omega arith)) (all_came parts ds)

term_finite : (m i cre ann : ℕ) (c : List Float) → float_term_refusal m i cre ann c ≡ none → all_finite c ≡ true
unfolding float_term_refusal
term_finite m i cre ann c z = needed _ (refusal NotFinite 1 i) (neither (need (inside m cre ann) (refusal WordOutside 1 i)) _ z).1

-- where the inputs are not refused, one joining term is answered by its coefficient with its sign
pub one_joining : (m : ℕ) (cre ann : List ℕ) (parts : List (List Float)) (bra ket i : ℕ) (s : Bool) → Every Doubles parts
    → input_refusal m cre ann parts bra ket ≡ none
    → OnlyJoins bra ket cre ann (length cre) i s
    → float_element m cre ann parts bra ket ≡ Ok (map (λ cs. exactly (signed_float s (get_or cs i nan))) parts)
unfolding input_refusal sum_refusal unless
one_joining m cre ann parts bra ket i s d z only =
    let terms = (neither _ _ (neither _ _ z).1).0 in
    let there = term_finite m i _ _ _ (first_none (term_at m cre ann parts) (length cre) i terms only.inside) in
    rw (
      or_second (input_refusal m cre ann parts bra ket) (sum_refusal bra ket cre ann parts) z,
      none_stops bra ket cre ann (length cre) i s only parts d there (length cre)
          (omega arith),
      all_came bra ket cre ann (length cre) i s only parts d,
    )
