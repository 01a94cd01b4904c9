-- A term as a row of 24 bytes: annihilation word, creation word, signed coefficient.
use Rattle.std.specs.Prelude.{ℕ, zero, suc, ◌+◌, ◌<◌, ◌^◌, List, [], ◌∷◌, ◌++◌}
use Rattle.std.specs.Int.{w64}
use Rattle.std.proofs.Common.{SFits, to_z, of_z}
use Rattle.modes.specs.declared.Term.{Term}
use Rattle.lent.specs.Bytes.{bytes, word_at, put}

unfoldable pub row_bytes : Term → List ℕ
row_bytes t = bytes 8 t.ann ++ (bytes 8 t.cre ++ bytes 8 (of_z w64 t.coeff))

-- the term whose row stands at byte o
unfoldable pub row_at : List ℕ → ℕ → Term
row_at l o = record { cre = word_at l (o + 8); ann = word_at l o; coeff = to_z w64 (word_at l (o + 16)) }

-- l with the row of t at byte o
abbrev pub put_row : List ℕ → ℕ → Term → List ℕ
put_row l o t = put l o (row_bytes t)

-- rows one after the other
unfoldable pub rows_bytes : List Term → List ℕ
rows_bytes [] = []
rows_bytes (t ∷ ts) = row_bytes t ++ rows_bytes ts

-- the terms of the n rows that stand from byte o on
unfoldable pub rows_at : List ℕ → ℕ → ℕ → List Term
rows_at l o zero = []
rows_at l o (suc n) = row_at l o ∷ rows_at l (o + 24) n

-- the words are of 64 bits, and so is the coefficient, with its sign
pub record Fit (t : Term) : Type 0 where
  pub ann : t.ann < 2 ^ 64
  pub cre : t.cre < 2 ^ 64
  pub coeff : SFits w64 t.coeff
