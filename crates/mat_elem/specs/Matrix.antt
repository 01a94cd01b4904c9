-- The projected matrix of a record on a basis of up to eight words: row the bra, column the ket.
use Rattle.std.specs.Prelude.{◌≡◌, Bool, false, not, ◌||◌, List, [], ◌∷◌, ◌++◌, map, ℕ, ◌-◌, ◌<◌, eqb, leb, ℤ, pos, length, get_or, take, replicate, Result}
use Rattle.std.specs.Int.{w64}
use Rattle.std.proofs.Common.{SFits}
use Rattle.modes.specs.Answers.{Verdict, refusal}
use Rattle.modes.specs.declared.Reason.TheVariants.{BadBasis}
use Rattle.modes.specs.declared.Refusal.{Refusal}
use Rattle.modes.specs.declared.Term.{Term}
use Rattle.products.specs.Operators.{element}
use Rattle.modes.specs.Refusals.{need, or_else, first_refusal, answered}
use Rattle.record.specs.Operands.{Operand}
use Rattle.modes.specs.Spaces.{word_refusal}
use Rattle.mat_elem.specs.declared.Row.{Row}

-- 12 of the basis word at index i
abbrev pub outside_at : ℕ → List ℕ → ℕ → Verdict
outside_at m basis i = word_refusal m 3 i (get_or basis i 0)

-- does the word stand among ws
unfoldable pub stands : ℕ → List ℕ → Bool
stands w [] = false
stands w (x ∷ ws) = eqb x w || stands w ws

-- 14 of the basis word at index i, where it stands earlier too
abbrev pub repeat_at : List ℕ → ℕ → Verdict
repeat_at basis i = need (not (stands (get_or basis i 0) (take i basis))) (refusal BadBasis 3 i)

-- the length, then 12 in order, then repeats
unfoldable pub basis_refusal : ℕ → List ℕ → Verdict
basis_refusal m basis =
    or_else (need (leb (length basis) 8) (refusal BadBasis 3 0))
    (or_else (first_refusal (outside_at m basis) (length basis)) (first_refusal (repeat_at basis) (length basis)))

-- the values of f for the basis words, and z up to eight
abbrev pub up_to_eight : {A : Type 0} → (ℕ → A) → A → List ℕ → List A
up_to_eight f z basis = map f basis ++ replicate (8 - length basis) z

-- the row of a bra: an entry for each ket
unfoldable pub row_of : List Term → List ℕ → ℕ → Row
row_of ts basis bra = record { entries = up_to_eight (λ ket. element bra ket ts) (pos 0) basis }

abbrev pub zero_row : Row
zero_row = record { entries = replicate 8 (pos 0) }

unfoldable pub matrix_of : List Term → List ℕ → List Row
matrix_of ts basis = up_to_eight (row_of ts basis) zero_row basis

-- the entry at row i and column j
abbrev pub entry_at : List Row → ℕ → ℕ → ℤ
entry_at rows i j = get_or (get_or rows i zero_row).entries j (pos 0)

-- the operator's refusals, then the basis's
abbrev pub projected_refusal : Operand → List ℕ → Verdict
projected_refusal a basis = or_else a.refusal (basis_refusal a.modes basis)

abbrev pub projected_of : Operand → List ℕ → Result (List Row) Refusal
projected_of a basis = answered (projected_refusal a basis) (matrix_of a.terms basis)

-- what the type of a matrix says: eight rows of eight signed numbers of 64 bits
pub record EightNumbers (r : Row) : Type 0 where
  pub count : length r.entries ≡ 8
  pub fits : (j : ℕ) → j < 8 → SFits w64 (get_or r.entries j (pos 0))

pub record EightRows (rows : List Row) : Type 0 where
  pub count : length rows ≡ 8
  pub each : (i : ℕ) → i < 8 → EightNumbers (get_or rows i (record { entries = [] }))
