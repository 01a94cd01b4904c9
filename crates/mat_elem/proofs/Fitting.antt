-- A projected matrix is eight rows of eight signed numbers of 64 bits, whatever the record and the basis.
use mathlib.Core.Path.{◌≡◌, refl, ◌∙◌}
use mathlib.Core.Bool.{Bool, true, false, cond}
use mathlib.Core.List.{List, [], ◌∷◌, ◌++◌, map}
use Prim.Native.Nat.{ℕ, zero, suc, ◌+◌, ◌-◌, ◌^◌, ◌≤◌, ◌<◌, zero-le}
use native.Mathlib.Nat.{le_refl}
use native.Mathlib.Omega.{arith}
use lib.Dec.{eqb}
use lib.IntN.{ℤ, pos, nat_abs}
use lib.ListN.{length, get_or, replicate, length-append, length-map, length-replicate}
use mir.Syntax.{w64}
use mir.Val.{SFits}
use Rattle.std.specs.Prelude.{Ok}
use Rattle.record.specs.Operands.{read_as}
use Rattle.modes.specs.Sums.{sum_of}
use Rattle.modes.specs.declared.Term.{Term}
use Rattle.integers.proofs.SignedNumbers.{abs_sum, abs_fits}
use Rattle.products.specs.PhaseRule.{Outcome, gone, went, term}
use Rattle.products.specs.Operators.{signed, adds, part, element}
use Rattle.products.proofs.Signs.{abs_signed}
use Rattle.record.specs.Terms.{weight}
use Rattle.record.specs.Layout.{modes_of, terms_of}
use Rattle.record.specs.Refusals.{refusal_of}
use Rattle.modes.proofs.Refusals.{neither, not_refused}
use Rattle.record.proofs.Accepted.{accepted_canonical}
use Rattle.mat_elem.specs.declared.Row.{Row}
use Rattle.mat_elem.specs.Matrix.{EightNumbers, EightRows, up_to_eight, row_of, zero_row, matrix_of, basis_refusal, projected_refusal, projected_of}
use Rattle.mat_elem.proofs.Projecting.{basis_short}

-- ---- an element is within the weight

adds_small : (bra : ℕ) (z : ℤ) (o : Outcome) → nat_abs (adds bra z o) ≤ nat_abs z
adds_small bra z gone = zero-le
adds_small bra z (went w s) = go (eqb w bra)
  where
    go : (b : Bool) → nat_abs (cond b (signed s z) (pos 0)) ≤ nat_abs z
    go true = rw (abs_signed s z) (le_refl _)
    go false = zero-le

element_small : (bra ket : ℕ) (ts : List Term) → nat_abs (element bra ket ts) ≤ weight ts
unfolding sum_of weight
element_small bra ket [] = zero-le
element_small bra ket (t ∷ ts) =
    omega (arith, abs_sum (part bra ket t) (element bra ket ts), adds_small bra t.coeff (term t.cre t.ann (went ket false)), element_small bra ket ts)

-- ---- eight of each

module _ {A : Type 0} (f : ℕ → A) (z : A) where
  length_eight : (basis : List ℕ) → length basis ≤ 8 → length (up_to_eight f z basis) ≡ 8
  length_eight basis h =
      length-append (map f basis) (replicate (8 - length basis) z) ∙ omega (arith, length-map basis f, length-replicate (8 - length basis) z)

  module _ (P : A → Type 0) (fine : (x : ℕ) → P (f x)) (last : P z) where
    each_replicate : (k i : ℕ) (d : A) → i < k → P (get_or (replicate k z) i d)
    each_replicate zero i d h = absurd (omega arith)
    each_replicate (suc k) zero d h = last
    each_replicate (suc k) (suc i) d h = each_replicate k i d (omega arith)

    each_of : (basis : List ℕ) (k i : ℕ) (d : A) → i < length basis + k → P (get_or (map f basis ++ replicate k z) i d)
    each_of [] k i d h = each_replicate k i d (omega arith)
    each_of (x ∷ basis) k zero d h = fine x
    each_of (x ∷ basis) k (suc i) d h = each_of basis k i d (omega arith)

    each_eight : (basis : List ℕ) → length basis ≤ 8 → (i : ℕ) (d : A) → i < 8 → P (get_or (up_to_eight f z basis) i d)
    each_eight basis h i d k = each_of basis (8 - length basis) i d (omega arith)

-- ---- the matrix

zero_numbers : EightNumbers zero_row
zero_numbers = record { count = refl; fits = λ j h. abs_fits _ (go j h) }
  where
    go : (j : ℕ) → j < 8 → nat_abs (get_or (replicate 8 (pos 0)) j (pos 0)) < 2 ^ 63
    go j h = each_replicate (λ x. pos 0) (pos 0) (λ w. nat_abs w < 2 ^ 63) (λ x. omega arith) (omega arith) 8 j (pos 0) h

module _ (ts : List Term) (light : weight ts ≤ 2 ^ 60) (basis : List ℕ) (few : length basis ≤ 8) where
  row_numbers : (bra : ℕ) → EightNumbers (row_of ts basis bra)
  unfolding row_of
  row_numbers bra =
      record {
        count = length_eight (λ ket. element bra ket ts) (pos 0) basis few;
        fits = λ j h.
            each_eight (λ ket. element bra ket ts) (pos 0) (SFits w64) (λ ket. abs_fits _ (omega (arith, element_small bra ket ts)))
            (abs_fits (pos 0) (omega arith)) basis few j (pos 0) h;
      }

  matrix_rows : EightRows (matrix_of ts basis)
  unfolding matrix_of
  matrix_rows =
      record {
        count = length_eight (row_of ts basis) zero_row basis few;
        each = λ i h. each_eight (row_of ts basis) zero_row EightNumbers row_numbers zero_numbers basis few i _ h;
      }

pub projected_rows : (a basis : List ℕ) (rows : List Row) → Ok rows ≡ projected_of (read_as 1 a) basis → EightRows rows
projected_rows a basis rows e =
    let found = not_refused (matrix_of (terms_of a) basis) (projected_refusal (read_as 1 a) basis) rows e in
    let both = neither (refusal_of 1 a) (basis_refusal (modes_of a) basis) found.0 in
    rw found.1 (matrix_rows (terms_of a) (accepted_canonical 1 a both.0).light basis (basis_short (modes_of a) basis both.1))
