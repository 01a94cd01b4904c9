-- What is read of the bytes of terms: the header's numbers, and the terms.
use mathlib.Core.Path.{◌≡◌, refl, sym, ap, ap₂, ◌∙◌}
use mathlib.Core.Bool.{true}
use mathlib.Core.List.{List, [], ◌∷◌, ◌++◌, map, append_assoc, append-nil}
use Prim.Native.Nat.{ℕ, ◌+◌, ◌*◌, ◌^◌, ◌≤◌, ◌<◌}
use native.Mathlib.Omega.{arith}
use lib.ListN.{length, get_or, length-append, length-map}
use borrow.Author.Tests.{eq-eqb, le-leb}
use mir.Facts.{to_z-of_z, Fits-of_z}
use Rattle.modes.specs.declared.Term.{Term}
use Rattle.modes.specs.Every.{Every, none, more}
use Rattle.modes.proofs.Every.{every_implies, every_map}
use Rattle.lent.specs.Rows.{Fit}
use Rattle.lent.proofs.RowLaws.{term_of}
use Rattle.record.specs.Numbers.{stored, numbers}
use Rattle.record.specs.Layout.{record_length, fields, header, column, columns, bits_of, encode, modes_of, count_of, total_of, together, terms_in, terms_of, laid_out}
use Rattle.record.proofs.Numbers.{length_stored, numbers_stored, numbers_same}

rejoined : (ts : List Term) → Every Fit ts → together (map (λ t. t.ann) ts) (map (λ t. t.cre) ts) (map bits_of ts) ≡ ts
unfolding together
rejoined [] none = refl
rejoined (t ∷ ts) (more f fs) =
    ap₂ {C = List Term} (λ (u : Term) (us : List Term). u ∷ us) (term_of refl refl (to_z-of_z f.coeff)) (rejoined ts fs)

pub length_header : (m n : ℕ) → length (header m n) ≡ 32
unfolding header
length_header m n = length_stored 4 (fields m n)

length_column : (f : Term → ℕ) (ts : List Term) → length (column f ts) ≡ 8 * length ts
unfolding column
length_column f ts = length_stored 8 (map f ts) ∙ ap (λ (x : ℕ). 8 * x) (length-map ts f)

length_columns : (ts : List Term) → length (columns ts) ≡ 24 * length ts
unfolding columns
length_columns ts = simp (length-append, length_column) (omega arith)

pub length_encode : (m : ℕ) (ts : List Term) → length (encode m ts) ≡ record_length (length ts)
length_encode m ts = length-append (header m (length ts)) (columns ts) ∙ rw (length_header, length_columns)

module _ (m : ℕ) (ts : List Term) (modes : m < 2 ^ 32) (few : length ts ≤ 2048) where
  abbrev n : ℕ
  n = length ts

  fields_below : Every (λ x. x < 2 ^ 32) (fields m n)
  fields_below =
      more {x = 1} (omega arith)
      (more modes
      (more {x = n} (omega arith)
      (more {x = 32} (omega arith)
      (more {x = 32 + 8 * n} (omega arith) (more {x = 32 + 16 * n} (omega arith) (more {x = 32 + 24 * n} (omega arith) (more {x = 0} (omega arith) none)))))))

  header_read : numbers 4 (encode m ts) 0 8 ≡ fields m n
  unfolding header
  header_read = numbers_stored 4 [] (columns ts) (fields m n) 0 refl fields_below

  pub modes_read : modes_of (encode m ts) ≡ m
  unfolding numbers
  modes_read = ap (λ (xs : List ℕ). get_or xs 1 0) header_read

  count_read : count_of (encode m ts) ≡ n
  unfolding numbers
  count_read = ap (λ (xs : List ℕ). get_or xs 2 0) header_read

  total_read : total_of (encode m ts) ≡ record_length n
  unfolding numbers
  total_read = ap (λ (xs : List ℕ). get_or xs 6 0) header_read

  module _ (fit : Every Fit ts) where
    -- a column that stands after p
    column_read : (p q : List ℕ) (f : Term → ℕ) (o : ℕ) → length p ≡ o → Every (λ t. f t < 2 ^ 64) ts → numbers 8 (p ++ (column f ts ++ q)) o n ≡ map f ts
    unfolding column
    column_read p q f o e h =
        ap (numbers 8 (p ++ (stored 8 (map f ts) ++ q)) o) (sym (length-map ts f)) ∙ numbers_stored 8 p q (map f ts) o e (every_map f ts (λ t k. k) h)

    abbrev h : List ℕ
    h = header m n

    abbrev a : List ℕ
    a = column (λ t. t.ann) ts

    abbrev c : List ℕ
    c = column (λ t. t.cre) ts

    abbrev z : List ℕ
    z = column bits_of ts

    pub terms_read : terms_of (encode m ts) ≡ ts
    unfolding terms_in columns
    terms_read =
        ap (terms_in (encode m ts)) count_read
        ∙ rw (
          column_read h (c ++ z) (λ t. t.ann) 32 (length_header m n) (every_implies ts (λ t f. f.ann) fit),
          ap (λ (l : List ℕ). numbers 8 l (32 + 8 * n) n) second ∙ column_read (h ++ a) z (λ t. t.cre) (32 + 8 * n) second_at (every_implies ts (λ t f. f.cre) fit),
          ap (λ (l : List ℕ). numbers 8 l (32 + 16 * n) n) third ∙ column_read (h ++ (a ++ c)) [] bits_of (32 + 16 * n) third_at
              (every_implies ts (λ t f. (Fits-of_z f.coeff).fits) fit),
        )
        (rejoined ts fit)
      where
        second : h ++ (a ++ (c ++ z)) ≡ (h ++ a) ++ (c ++ z)
        second = simp append_assoc

        second_at : length (h ++ a) ≡ 32 + 8 * n
        second_at = simp (length-append, length_header, length_column)

        third : h ++ (a ++ (c ++ z)) ≡ (h ++ (a ++ c)) ++ (z ++ [])
        third = simp (append_assoc, append-nil)

        third_at : length (h ++ (a ++ c)) ≡ 32 + 16 * n
        third_at = simp (length-append, length_header, length_column) (omega arith)

  pub laid_read : 1 ≤ m → m ≤ 64 → laid_out (encode m ts) ≡ true
  unfolding laid_out
  laid_read some most =
      rw (
        header_read,
        modes_read,
        count_read,
        total_read,
        eq-eqb _ _ (length_encode m ts),
        le-leb 1 m some,
        le-leb m 64 most,
        le-leb _ _ few,
        numbers_same (fields m n),
      )
