-- One product L R of two terms: when it is empty, which common modes branch, its rows in order, and what `mul_cmpnts` answers and leaves.
use Rattle.std.specs.Prelude.{◌≡◌, Bool, not, cond, ◌&&◌, List, [], ◌∷◌, ◌++◌, map, ℕ, zero, suc, ◌*◌, ◌^◌, ltb, ℤ, pos, length}
use Rattle.std.specs.Int.Bits.{bit_and, bit_or, bit_xor}
use Rattle.modes.specs.Bools.{◌⊕◌}
use Rattle.modes.specs.Words.{Modes, bit, each}
use Rattle.modes.specs.Counts.{count, odd, odd_exchanges}
use Rattle.modes.specs.Answers.{rows_do_not_fit}
use Rattle.modes.specs.declared.Term.{Term}
use Rattle.lent.specs.Rows.{rows_bytes}
use Rattle.lent.specs.Outputs.{Output, refused_output, filled_output}
use Rattle.products.specs.Operators.{signed}

-- The mode does not empty the product: it is in both creation words only if it is in L's annihilations, and in both annihilation words only if it is in R's creations.
abbrev pub fine : Bool → Bool → Bool → Bool → Bool
fine lc la rc ra = not (lc && rc && not la) && not (la && ra && not rc)

-- A common mode, in L's annihilations and R's creations, branches if it is in neither L's creations nor R's annihilations.
abbrev pub branch : Bool → Bool → Bool → Bool → Bool
branch lc la rc ra = la && rc && not lc && not ra

-- The sign that the ladders of {c|a} pick up along the word w: annihilations on w, creations on w with the annihilated modes changed.
abbrev pub sign_of : ℕ → ℕ → ℕ → Bool
sign_of c a w = odd_exchanges 64 (bit w) (bit a) ⊕ odd_exchanges 64 (bit (bit_xor w a)) (bit c)

-- Two terms of different words.
abbrev pub Other : Term → Term → Type 0
Other t u = t.cre ≡ u.cre → t.ann ≡ u.ann → ⊥

-- The sets S with more or fewer of B's modes from p on, of which n are left. The lowest mode is the most significant choice, without it before with it.
unfoldable pub choices : ℕ → ℕ → Modes → ℕ → List ℕ
choices zero p B S = S ∷ []
choices (suc n) p B S =
    let low = choices n (suc p) B S in
    let both = choices n (suc p) B S ++ choices n (suc p) B (bit_xor S (2 ^ p)) in
    cond (B p) both low

module _ (Lc La Rc Ra : ℕ) where
  abbrev pub not_empty : Bool
  not_empty = each 64 (λ p. fine (bit Lc p) (bit La p) (bit Rc p) (bit Ra p))

  abbrev pub branching : Modes
  branching p = branch (bit Lc p) (bit La p) (bit Rc p) (bit Ra p)

  -- the words of the row that keeps the branching modes S: L's creations and R's without common modes, R's annihilations and L's without common modes, and S in both
  abbrev pub cre_at : ℕ → ℕ
  cre_at S = bit_or (bit_or Lc (bit_xor Rc (bit_and La Rc))) S

  abbrev pub ann_at : ℕ → ℕ
  ann_at S = bit_or (bit_or Ra (bit_xor La (bit_and La Rc))) S

  -- its sign: a flip for each mode that it keeps, and the signs of R, then L, and of the row, along the empty word
  abbrev pub minus_at : ℕ → Bool
  minus_at S = (odd 64 (bit S) ⊕ (sign_of Rc Ra 0 ⊕ sign_of Lc La (bit_xor Ra Rc))) ⊕ sign_of (cre_at S) (ann_at S) 0

  -- the row, times z
  abbrev pub row_times : ℤ → ℕ → Term
  row_times z S = record { cre = cre_at S; ann = ann_at S; coeff = signed (minus_at S) z }

  -- all rows in order, times z; none if the product is empty
  unfoldable pub rows_times : ℤ → List Term
  rows_times z = let l = map (row_times z) (choices 64 0 branching 0) in cond not_empty l []

  -- the product isn't empty, and 24 times 2^b exceeds the output's length
  abbrev pub no_room : ℕ → Bool
  no_room room = not_empty && ltb room (24 * 2 ^ count 64 branching)

  -- what `mul_cmpnts` answers for an output of `room` bytes, and the whole output at its end
  unfoldable pub multiplied : ℕ → Output
  multiplied room =
      let rows = rows_times (pos 1) in
      let filled = filled_output room (length rows) (rows_bytes rows) in
      cond (no_room room) (refused_output room rows_do_not_fit) filled
