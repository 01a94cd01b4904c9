-- What a projected matrix that is not refused holds: at two words of the basis what `element` answers there, and 0 elsewhere.
use mathlib.Core.Path.{◌≡◌, refl, ap, ◌∙◌}
use mathlib.Core.Bool.{true}
use mathlib.Core.List.{List, [], ◌∷◌, ◌++◌, map}
use mathlib.Core.Logic.{◌⊎◌, inl, inr}
use Prim.Native.Nat.{ℕ, zero, suc, ◌-◌, ◌^◌, ◌≤◌, ◌<◌}
use native.Mathlib.Omega.{arith}
use lib.Dec.{ltb}
use lib.IntN.{pos}
use lib.ListN.{length, get_or, replicate}
use Rattle.std.specs.Prelude.{Ok}
use Rattle.record.specs.Operands.{read_as}
use Rattle.modes.specs.Answers.{none}
use Rattle.modes.specs.declared.Term.{Term}
use Rattle.modes.proofs.Digits.{lt_or_ge}
use Rattle.products.specs.Operators.{element}
use Rattle.record.specs.Layout.{modes_of, terms_of}
use Rattle.modes.specs.Refusals.{or_else, unless}
use Rattle.record.specs.Refusals.{refusal_of}
use Rattle.modes.proofs.Refusals.{neither, not_refused}
use Rattle.mat_elem.specs.Elements.{element_of}
use Rattle.mat_elem.specs.Matrix.{outside_at, basis_refusal, row_of, zero_row, matrix_of, entry_at, projected_refusal, projected_of}
use Rattle.mat_elem.specs.declared.Row.{Row}
use Rattle.modes.proofs.Spaces.{word_inside}
use Rattle.modes.proofs.FirstRefusals.{first_none}

-- ---- eight entries

module _ {A : Type 0} (f : ℕ → A) (z : A) where
  map_at : (basis : List ℕ) (i : ℕ) → i < length basis → (rest : List A) → get_or (map f basis ++ rest) i z ≡ f (get_or basis i 0)
  map_at [] i h rest = absurd (omega arith)
  map_at (x ∷ basis) zero h rest = refl
  map_at (x ∷ basis) (suc i) h rest = map_at basis i (omega arith) rest

  zeros_at : (k i : ℕ) → get_or (replicate k z) i z ≡ z
  zeros_at zero i = refl
  zeros_at (suc k) zero = refl
  zeros_at (suc k) (suc i) = zeros_at k i

  past_at : (basis : List ℕ) (k i : ℕ) → length basis ≤ i → get_or (map f basis ++ replicate k z) i z ≡ z
  past_at [] k i h = zeros_at k i
  past_at (x ∷ basis) k zero h = absurd (omega arith)
  past_at (x ∷ basis) k (suc i) h = past_at basis k i (omega arith)

-- ---- the entries

module _ (ts : List Term) (basis : List ℕ) where
  used_entry : (i j : ℕ) → i < length basis → j < length basis → entry_at (matrix_of ts basis) i j ≡ element (get_or basis i 0) (get_or basis j 0) ts
  unfolding matrix_of row_of
  used_entry i j h k =
      ap (λ (r : Row). get_or r.entries j (pos 0)) (map_at (row_of ts basis) zero_row basis i h (replicate (8 - length basis) zero_row))
      ∙ map_at (λ ket. element (get_or basis i 0) ket ts) (pos 0) basis j k (replicate (8 - length basis) (pos 0))

  unused_row : (i j : ℕ) → length basis ≤ i → entry_at (matrix_of ts basis) i j ≡ pos 0
  unfolding matrix_of row_of
  unused_row i j h =
      ap (λ (r : Row). get_or r.entries j (pos 0)) (past_at (row_of ts basis) zero_row basis (8 - length basis) i h) ∙ zeros_at (λ x. pos x) (pos 0) 8 j

  unused_column : (i j : ℕ) → i < length basis → length basis ≤ j → entry_at (matrix_of ts basis) i j ≡ pos 0
  unfolding matrix_of row_of
  unused_column i j h k =
      ap (λ (r : Row). get_or r.entries j (pos 0)) (map_at (row_of ts basis) zero_row basis i h (replicate (8 - length basis) zero_row))
      ∙ past_at (λ ket. element (get_or basis i 0) ket ts) (pos 0) basis (8 - length basis) j k

-- ---- a basis that is not refused

module _ (a basis : List ℕ) (rows : List Row) (e : Ok rows ≡ projected_of (read_as 1 a) basis) where
  found : (projected_refusal (read_as 1 a) basis ≡ none) × (rows ≡ matrix_of (terms_of a) basis)
  found = not_refused (matrix_of (terms_of a) basis) (projected_refusal (read_as 1 a) basis) rows e

  accepted : refusal_of 1 a ≡ none
  accepted = (neither _ _ found.0).0

  basis_fine : basis_refusal (modes_of a) basis ≡ none
  basis_fine = (neither _ _ found.0).1

  inside : (i : ℕ) → i < length basis → ltb (get_or basis i 0) (2 ^ modes_of a) ≡ true
  unfolding basis_refusal
  inside i h =
      word_inside (modes_of a) 3 i (get_or basis i 0)
      (first_none (outside_at (modes_of a) basis) (length basis) i (neither _ _ (neither _ _ basis_fine).1).0 h)

  -- at two basis words the entry is what `element` answers at this bra and ket
  pub entry_is : (i j : ℕ) → i < length basis → j < length basis
      → element_of (read_as 1 a) (get_or basis i 0) (get_or basis j 0) ≡ Ok (entry_at rows i j)
  unfolding or_else unless
  entry_is i j h k =
      rw (accepted, inside i h, inside j k, found.1, used_entry (terms_of a) basis i j h k)

  -- all others are 0
  pub unused_zero : (i j : ℕ) → (length basis ≤ i) ⊎ (length basis ≤ j) → entry_at rows i j ≡ pos 0
  unused_zero i j d = ap (λ (x : List Row). entry_at x i j) found.1 ∙ go d (lt_or_ge i (length basis))
    where
      go : (length basis ≤ i) ⊎ (length basis ≤ j) → (i < length basis) ⊎ (length basis ≤ i) → entry_at (matrix_of (terms_of a) basis) i j ≡ pos 0
      go c (inr h) = unused_row (terms_of a) basis i j h
      go (inl h) (inl k) = absurd (omega arith)
      go (inr h) (inl k) = unused_column (terms_of a) basis i j k h
