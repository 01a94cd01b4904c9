-- What the sort leaves of the adjoint terms is the adjoint's terms.
use mathlib.Core.Path.{◌≡◌, refl, ap, ◌∙◌}
use mathlib.Core.Bool.{Bool, true, false}
use mathlib.Core.List.{List, [], ◌∷◌, map}
use Prim.Native.Nat.{ℕ, suc, ◌+◌, ◌≤◌, ◌<◌}
use native.Mathlib.Omega.{arith}
use lib.ListN.{length, length-map}
use Rattle.record.proofs.Order.{before_key}
use Rattle.modes.specs.declared.Term.{Term}
use Rattle.modes.specs.Every.{Every}
use Rattle.modes.proofs.Every.{every_map, every_both}
use Rattle.integers.proofs.SignedNumbers.{abs_fits}
use Rattle.lent.specs.Rows.{Fit}
use Rattle.places.specs.Terms.{at}
use Rattle.places.specs.Order.{key}
use Rattle.quicksort.specs.Sorted.{Arranged, Sorted}
use Rattle.places.proofs.UpTo.{every_at}
use Rattle.quicksort.proofs.SortedTerms.{arranged, sum_kept, every_kept}
use Rattle.record.specs.Terms.{before, Ascending}
use Rattle.record.specs.Layout.{terms_in, column_places}
use Rattle.record.specs.Canonical.{Nonzero, Canonical}
use Rattle.record.specs.Coefficients.{coeff_in}
use Rattle.record.proofs.Columns.{at_columns}
use Rattle.record.proofs.Inverse.{canonical_fit}
use Rattle.normal.proofs.Normal.{normal_is, normal_same}
use Rattle.normal.proofs.Sizes.{Rises, nothing, single, onto, rises_ascending}
use Rattle.adjoint.specs.Adjoint.{Negatable, adjoint_term, adjoint_terms}
use Rattle.adjoint.proofs.Terms.{same_size, still_nonzero, length_adjoint, negatable}

-- ---- in order, by index

rises_of : (ts : List Term) → ((k : ℕ) → suc k < length ts → before (at ts (suc k)) (at ts k) ≡ false) → Rises ts
unfolding at
rises_of [] h = nothing
rises_of (t ∷ []) h = single
rises_of (t ∷ u ∷ ts) h = onto (h 0 (omega arith)) (rises_of (u ∷ ts) (λ k b. h (suc k) (omega arith)))

key_level : (t u : Term) → Fit u → key t ≤ key u → before u t ≡ false
key_level t u g h = go (before u t) refl
  where
    go : (b : Bool) → before u t ≡ b → b ≡ false
    go true e = absurd (omega (arith, before_key u t g e))
    go false e = refl

-- ---- the adjoint terms fit their bytes

still_fit : (t : Term) → Fit t → Negatable t → Fit (adjoint_term t)
unfolding adjoint_term
still_fit t f h = record { ann = f.cre; cre = f.ann; coeff = abs_fits _ (omega (arith, same_size t)) }

fit_adjoint : (ts : List Term) → Every Fit ts → Every Negatable ts → Every Fit (map adjoint_term ts)
fit_adjoint ts f h = every_map adjoint_term ts (λ t k. still_fit t k.0 k.1) (every_both ts f h)

-- ---- the sort

-- the terms of a record are those at its columns
pub sorted_terms : (n : ℕ) (l m : List ℕ) → Sorted (column_places n) n l m → Arranged n (terms_in l n) (terms_in m n)
sorted_terms n l m s = rw (at_columns l n, at_columns m n) at (arranged s)

module _ (m n : ℕ) (ts us : List Term) (size : length ts ≡ n) (size2 : length us ≡ n) (k : Canonical m ts) (s : Arranged n (map adjoint_term ts) us) where
  count : length (map adjoint_term ts) ≡ n
  count = length-map ts adjoint_term ∙ size

  every_sorted : (P : Term → Type 0) → Every P (map adjoint_term ts) → Every P us
  every_sorted = every_kept count size2 s

  rises : Rises us
  rises =
      let fit = every_sorted Fit (fit_adjoint ts (canonical_fit m ts k) (negatable m ts k)) in
      rises_of us (λ i b.
      let e : i + 1 ≡ suc i = omega arith in
      key_level (at us i) (at us (suc i)) (every_at Fit us fit (suc i) b) (rw e at (s.ascending.step i (omega arith) (omega (arith, size2)))))

  -- the normal form has as many terms, so no two have the same words
  ascends : Ascending us
  ascends =
      let same = normal_same us (map adjoint_term ts) (λ c a. sum_kept count size2 s (coeff_in c a)) in
      rises_ascending us rises (omega (arith, ap length same, length_adjoint m ts k, size, size2))

  pub sorted_adjoint : us ≡ adjoint_terms ts
  sorted_adjoint =
      normal_is us (map adjoint_term ts) ascends (every_sorted Nonzero (every_map adjoint_term ts still_nonzero k.nonzero))
      (λ c a. sum_kept count size2 s (coeff_in c a))
