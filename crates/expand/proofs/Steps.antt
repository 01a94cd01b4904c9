-- One ladder more: the rows are none, those of the lowest row, or those of the lowest row and of the one that keeps the ladder's mode.
use mathlib.Core.Path.{◌≡◌, refl, sym, ap, ◌∙◌}
use mathlib.Core.Bool.{Bool, true, false, true≢false}
use mathlib.Core.List.{List, [], ◌∷◌, ◌++◌, append-nil}
use Prim.Native.Nat.{ℕ, suc, ◌-◌, ◌^◌, ◌<◌}
use native.Mathlib.Omega.{arith}
use lib.Bits.{bit_and}
use borrow.Author.Tests.{eqb-true}
use Rattle.modes.specs.Words.{bit}
use Rattle.modes.specs.Counts.{count}
use Rattle.modes.specs.Sums.{sum_by, list_of}
use Rattle.modes.specs.declared.Term.{Term}
use Rattle.modes.proofs.Bools.{and_l}
use Rattle.modes.proofs.Digits.{bit_of_and, bit_pow, bit_none, ext}
use Rattle.modes.proofs.Lowest.{Lowest, lowest, lowest_less}
use Rattle.products.specs.Product.{not_empty, branching, row_times}
use Rattle.products.specs.Walk.{One, keeping, walk}
use Rattle.products.proofs.Walks.{none_left, one_left, fewer_left}
use Rattle.products.proofs.WalkRows.{walk_rows}
use Rattle.products.proofs.Multiplied.{rows_none, rows_full}
use Rattle.lines.specs.Grammar.{Ladder}
use Rattle.expand.specs.Rows.{creation, annihilation, rows_with, rows_after}
use Rattle.expand.proofs.Sizes.{branches_at}

module _ (t : Term) (x : Ladder) where
  abbrev full : Bool
  full = not_empty t.cre t.ann (creation x) (annihilation x)

  abbrev pub low_row : Term
  low_row = row_times t.cre t.ann (creation x) (annihilation x) t.coeff 0

  abbrev branches : ℕ → Bool
  branches = branching t.cre t.ann (creation x) (annihilation x)

  pub rows_gone : full ≡ false → (ys : List Ladder) → rows_after t (x ∷ ys) ≡ []
  unfolding rows_after sum_by
  rows_gone e ys = ap (list_of (λ u. rows_after u ys)) (rows_none t.cre t.ann (creation x) (annihilation x) t.coeff e)

  module _ (left : ℕ) (small : left < 2 ^ 64) (is : (p : ℕ) → bit left p ≡ branches p) where
    -- a mode that is left is the ladder's
    at_mode : (p : ℕ) → bit left p ≡ true → p ≡ x.mode
    at_mode p h = eqb-true p x.mode (sym (bit_pow x.mode p) ∙ branches_at t.cre t.ann p x (sym (is p) ∙ h))

    -- so that the lowest is all
    alone : 0 < left → bit_and left (left - 1) ≡ 0
    alone some = ext (bit_and left (left - 1)) 0 (λ p. go p (bit (bit_and left (left - 1)) p) refl)
      where
        low : Lowest left
        low = lowest left some

        go : (p : ℕ) (b : Bool) → bit (bit_and left (left - 1)) p ≡ b → bit (bit_and left (left - 1)) p ≡ bit 0 p
        go p true h =
            let in_left : bit left p ≡ true = and_l (bit left p) (bit (left - 1) p) (sym (bit_of_and left (left - 1) p) ∙ h) in
            let same : p ≡ low.at = at_mode p in_left ∙ sym (at_mode low.at (lowest_less left low).has) in
            absurd (true≢false (sym h ∙ ap (bit (bit_and left (left - 1))) same ∙ (lowest_less left low).lost))
        go p false h = h ∙ sym (bit_none p)

    whole : 0 < left → left - bit_and left (left - 1) ≡ left
    whole some = omega (arith, alone some)

    pub one_mode : 0 < left → One left
    one_mode some = rw (whole some) at (one_left left some small)

    -- ---- the rows

    module _ (some_rows : full ≡ true) where
      walked : rows_with t x ≡ walk (count 64 (bit left)) left low_row
      walked =
          rows_full t.cre t.ann (creation x) (annihilation x) t.coeff some_rows
          ∙ sym (walk_rows t.cre t.ann (creation x) (annihilation x) left small is t.coeff)

      -- no mode branches
      one_row : left ≡ 0 → rows_with t x ≡ low_row ∷ []
      unfolding walk
      one_row e = walked ∙ ap (λ (n : ℕ). walk n left low_row) (none_left left e)

      -- the ladder's mode branches
      two_rows : 0 < left → rows_with t x ≡ low_row ∷ keeping left low_row ∷ []
      unfolding walk
      two_rows some =
          let one : count 64 (bit left) ≡ 1 = fewer_left left some small ∙ ap suc (none_left (bit_and left (left - 1)) (alone some)) in
          walked ∙ ap (λ (n : ℕ). walk n left low_row) one ∙ ap (λ (w : ℕ). low_row ∷ keeping w low_row ∷ []) (whole some)

      pub rows_single : left ≡ 0 → (ys : List Ladder) → rows_after t (x ∷ ys) ≡ rows_after low_row ys
      unfolding rows_after sum_by
      rows_single e ys = ap (list_of (λ u. rows_after u ys)) (one_row e) ∙ append-nil (rows_after low_row ys)

      pub rows_twofold : 0 < left → (ys : List Ladder) → rows_after t (x ∷ ys) ≡ rows_after low_row ys ++ rows_after (keeping left low_row) ys
      unfolding rows_after sum_by
      rows_twofold some ys =
          ap (list_of (λ u. rows_after u ys)) (two_rows some) ∙ ap (λ (l : List Term). rows_after low_row ys ++ l) (append-nil (rows_after (keeping left low_row) ys))
