-- The record: a header of eight numbers of 4 bytes, then three columns of 8-byte entries, as bytes and read from bytes.
use Rattle.std.specs.Prelude.{ℕ, ◌+◌, ◌*◌, Bool, ◌&&◌, List, [], ◌∷◌, ◌++◌, map, eqb, leb, length}
use Rattle.std.specs.Int.{w64}
use Rattle.std.proofs.Common.{to_z, of_z}
use Rattle.modes.specs.declared.Term.{Term}
use Rattle.modes.specs.Spaces.{space_of, is_made}
use Rattle.lent.specs.Bytes.{half_at}
use Rattle.places.specs.declared.Places.{Places}
use Rattle.record.specs.Numbers.{stored, numbers, same_numbers}

-- how many bytes a record of n terms has
abbrev pub record_length : ℕ → ℕ
record_length n = 32 + 24 * n

-- version, modes, terms, offsets of annihilations, creations and coefficients, total, zero
abbrev pub fields : ℕ → ℕ → List ℕ
fields m n = 1 ∷ m ∷ n ∷ 32 ∷ (32 + 8 * n) ∷ (32 + 16 * n) ∷ record_length n ∷ 0 ∷ []

unfoldable pub header : ℕ → ℕ → List ℕ
header m n = stored 4 (fields m n)

-- a column holds one number of each term; a coefficient's is its bits
unfoldable pub column : (Term → ℕ) → List Term → List ℕ
column f ts = stored 8 (map f ts)

abbrev pub bits_of : Term → ℕ
bits_of t = of_z w64 t.coeff

unfoldable pub columns : List Term → List ℕ
columns ts = column (λ t. t.ann) ts ++ (column (λ t. t.cre) ts ++ column bits_of ts)

-- the record of the terms ts on m modes
abbrev pub encode : ℕ → List Term → List ℕ
encode m ts = header m (length ts) ++ columns ts

-- the modes, the number of terms and the terms of a record
abbrev pub modes_of : List ℕ → ℕ
modes_of l = half_at l 4

abbrev pub count_of : List ℕ → ℕ
count_of l = half_at l 8

-- the length that its header tells
abbrev pub total_of : List ℕ → ℕ
total_of l = half_at l 24

-- terms from their annihilations, their creations and the bits of their coefficients
unfoldable pub together : List ℕ → List ℕ → List ℕ → List Term
together [] ys zs = []
together (a ∷ xs) [] zs = []
together (a ∷ xs) (c ∷ ys) [] = []
together (a ∷ xs) (c ∷ ys) (z ∷ zs) = record { cre = c; ann = a; coeff = to_z w64 z } ∷ together xs ys zs

-- the n terms whose three columns stand in l
unfoldable pub terms_in : List ℕ → ℕ → List Term
terms_in l n = together (numbers 8 l 32 n) (numbers 8 l (32 + 8 * n) n) (numbers 8 l (32 + 16 * n) n)

abbrev pub terms_of : List ℕ → List Term
terms_of l = terms_in l (count_of l)

-- the header is good: its mode count and number of terms keep the rules, and its other numbers are theirs
abbrev pub good_header : List ℕ → Bool
good_header l = is_made (space_of (modes_of l)) && (leb (count_of l) 2048 && same_numbers (numbers 4 l 0 8) (fields (modes_of l) (count_of l)))

-- and the length is the header's
unfoldable pub laid_out : List ℕ → Bool
laid_out l = good_header l && eqb (length l) (total_of l)

-- the columns of n terms as places, for the sort
abbrev pub column_places : ℕ → Places
column_places n = record { ann = 32; cre = 32 + 8 * n; coeff = 32 + 16 * n; step = 8 }
