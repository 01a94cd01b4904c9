-- Theorems on one product, stated of the bytes that `mul_cmpnts` leaves: its rows act as R and then L, there are 2^b of them, and no two have the same words.
use mathlib.Core.Path.{◌≡◌, refl, sym, ap, ap₂, ◌∙◌, subst}
use mathlib.Core.Bool.{Bool, true, false, not, cond, ◌&&◌, ◌||◌}
use mathlib.Core.List.{List, [], ◌++◌, map}
use Prim.Native.Nat.{ℕ, ◌-◌, ◌*◌, ◌^◌, ◌≤◌, ◌<◌}
use native.Mathlib.Nat.{le_trans, le_of_eq, lt_of_le_of_lt}
use lib.Bits.{bit_and, bit_or, bit_xor, or_lt, xor_lt, and_lt, and_le_r}
use lib.Dec.{ltb, lit<}
use lib.IntN.{ℤ, pos, nat_abs}
use lib.ListN.{length}
use Rattle.modes.specs.Bools.{◌⊕◌, same}
use Rattle.modes.specs.Words.{bit}
use Rattle.modes.specs.Counts.{count}
use Rattle.std.specs.Prelude.{Result, Ok}
use Rattle.modes.specs.Answers.{rows_do_not_fit, number_in}
use Rattle.modes.specs.declared.Refusal.{Refusal}
use Rattle.modes.specs.declared.Written.{Written}
use Rattle.modes.proofs.Bools.{of_same, at5}
use Rattle.modes.proofs.Digits.{bit_of_and, bit_none, ext}
use Rattle.lent.specs.Bytes.{zeros}
use Rattle.modes.specs.Every.{Every, none, Pairwise, nothing}
use Rattle.modes.proofs.Every.{every_map, pairwise_map}
use Rattle.lent.specs.Rows.{rows_bytes, rows_at, Fit}
use Rattle.lent.specs.Outputs.{Output, refused_output, filled_output, Gives}
use Rattle.lent.proofs.RowLaws.{rows_at_is}
use Rattle.integers.proofs.SignedNumbers.{abs_fits}
use Rattle.products.specs.PhaseRule.{went, term}
use Rattle.products.specs.Operators.{signed, adds, element}
use Rattle.products.specs.Product.{branch, Other, choices, not_empty, branching, cre_at, minus_at, row_times, rows_times, no_room, multiplied}
use Rattle.products.proofs.Sums.{Part}
use Rattle.products.proofs.RowDigits.{imp, mp, cre_d, bit_cre}
use Rattle.products.proofs.ProductActs.{product_acts}
use Rattle.products.proofs.Choices.{choices_parts, choices_differ}
use Rattle.products.proofs.Signs.{abs_signed}
use Rattle.products.proofs.Multiplied.{rows_none, rows_number}

module _ (Lc La Rc Ra : ℕ) where
  parts : Every (Part 64 (branching Lc La Rc Ra)) (choices 64 0 (branching Lc La Rc Ra) 0)
  parts = choices_parts 64 0 (branching Lc La Rc Ra) 0 refl
      (record { inside = λ i. ap (λ (x : Bool). not x || branching Lc La Rc Ra i) (bit_none i); above = λ i l. bit_none i; small = lit< tt })

  -- ---- no two rows have the same words

  -- a row's creations show which branching modes it keeps
  kept_digit : (lc la rc ra s : Bool) → not s || branch lc la rc ra ≡ true → (cre_d lc la rc || s) && branch lc la rc ra ≡ s
  unfolding ◌⊕◌
  kept_digit lc la rc ra s e =
      of_same _ _ (mp _ _ (at5 (λ lc la rc ra s. imp (not s || branch lc la rc ra) (same ((cre_d lc la rc || s) && branch lc la rc ra) s)) refl lc la rc ra s) e)

  kept_by : (S : ℕ) → Part 64 (branching Lc La Rc Ra) S → (p : ℕ) → bit (cre_at Lc La Rc Ra S) p && branching Lc La Rc Ra p ≡ bit S p
  kept_by S h p =
      ap (λ (x : Bool). x && branching Lc La Rc Ra p) (bit_cre Lc La Rc Ra S p) ∙ kept_digit (bit Lc p) (bit La p) (bit Rc p) (bit Ra p) (bit S p) (h.inside p)

  other_rows : (z : ℤ) (S T : ℕ) → Part 64 (branching Lc La Rc Ra) S → Part 64 (branching Lc La Rc Ra) T → (S ≡ T → ⊥)
      → Other (row_times Lc La Rc Ra z S) (row_times Lc La Rc Ra z T)
  other_rows z S T h k n c a =
      n (ext S T (λ p. sym (kept_by S h p) ∙ ap (λ (w : ℕ). bit w p && branching Lc La Rc Ra p) c ∙ kept_by T k p))

  pub rows_differ : (z : ℤ) → Pairwise Other (rows_times Lc La Rc Ra z)
  unfolding rows_times
  rows_differ z = go (not_empty Lc La Rc Ra)
    where
      go : (b : Bool) → Pairwise Other (cond b (map (row_times Lc La Rc Ra z) (choices 64 0 (branching Lc La Rc Ra) 0)) [])
      go true =
          pairwise_map (Part 64 (branching Lc La Rc Ra)) (λ S T. S ≡ T → ⊥) Other (row_times Lc La Rc Ra z) (other_rows z) (choices 64 0 (branching Lc La Rc Ra) 0)
          parts (choices_differ 64 0 (branching Lc La Rc Ra) 0)
      go false = nothing

  -- ---- a row's coefficient is as far from zero as the product's

  pub rows_size : (z : ℤ) → Every (λ r. nat_abs r.coeff ≤ nat_abs z) (rows_times Lc La Rc Ra z)
  unfolding rows_times
  rows_size z = go (not_empty Lc La Rc Ra)
    where
      go : (b : Bool) → Every (λ r. nat_abs r.coeff ≤ nat_abs z) (cond b (map (row_times Lc La Rc Ra z) (choices 64 0 (branching Lc La Rc Ra) 0)) [])
      go true = every_map (row_times Lc La Rc Ra z) (choices 64 0 (branching Lc La Rc Ra) 0) (λ S h. le_of_eq (abs_signed (minus_at Lc La Rc Ra S) z)) parts
      go false = none

  -- ---- a row holds only modes that the four words hold

  module _ (m : ℕ) (hLc : Lc < 2 ^ m) (hLa : La < 2 ^ m) (hRc : Rc < 2 ^ m) (hRa : Ra < 2 ^ m) where
    -- a branching mode is one of L's annihilations
    held_digit : (lc la rc ra s : Bool) → not s || branch lc la rc ra ≡ true → s ≡ s && la
    held_digit lc la rc ra s e = of_same _ _ (mp _ _ (at5 (λ lc la rc ra s. imp (not s || branch lc la rc ra) (same s (s && la))) refl lc la rc ra s) e)

    kept_small : (S : ℕ) → Part 64 (branching Lc La Rc Ra) S → S < 2 ^ m
    kept_small S h =
        let part : S ≡ bit_and S La = ext S (bit_and S La) (λ p. held_digit (bit Lc p) (bit La p) (bit Rc p) (bit Ra p) (bit S p) (h.inside p) ∙ sym (bit_of_and S La p)) in
        lt_of_le_of_lt (le_trans (le_of_eq part) (and_le_r S La)) hLa

    pub row_within : (z : ℤ) (S : ℕ) → Part 64 (branching Lc La Rc Ra) S → ((row_times Lc La Rc Ra z S).ann < 2 ^ m) × ((row_times Lc La Rc Ra z S).cre < 2 ^ m)
    row_within z S h = (
      or_lt m (bit_or Ra (bit_xor La (bit_and La Rc))) S (or_lt m Ra (bit_xor La (bit_and La Rc)) hRa (xor_lt m La (bit_and La Rc) hLa (and_lt m La Rc hLa hRc))) (kept_small S h),
      or_lt m (bit_or Lc (bit_xor Rc (bit_and La Rc))) S (or_lt m Lc (bit_xor Rc (bit_and La Rc)) hLc (xor_lt m Rc (bit_and La Rc) hRc (and_lt m La Rc hLa hRc))) (kept_small S h),
    )

    pub rows_within : (z : ℤ) → Every (λ t. (t.ann < 2 ^ m) × (t.cre < 2 ^ m)) (rows_times Lc La Rc Ra z)
    unfolding rows_times
    rows_within z = go (not_empty Lc La Rc Ra)
      where
        go : (b : Bool) → Every (λ t. (t.ann < 2 ^ m) × (t.cre < 2 ^ m)) (cond b (map (row_times Lc La Rc Ra z) (choices 64 0 (branching Lc La Rc Ra) 0)) [])
        go true = every_map (row_times Lc La Rc Ra z) (choices 64 0 (branching Lc La Rc Ra) 0) (row_within z) parts
        go false = none

  -- ---- the rows that the output holds

  module _ (hLc : Lc < 2 ^ 64) (hLa : La < 2 ^ 64) (hRc : Rc < 2 ^ 64) (hRa : Ra < 2 ^ 64) where
    row_fits : (z : ℤ) → nat_abs z < 2 ^ 63 → (S : ℕ) → Part 64 (branching Lc La Rc Ra) S → Fit (row_times Lc La Rc Ra z S)
    row_fits z l S h =
        let small = row_within 64 hLc hLa hRc hRa z S h in
        record { ann = small.0; cre = small.1; coeff = abs_fits (signed (minus_at Lc La Rc Ra S) z) (rw (abs_signed (minus_at Lc La Rc Ra S) z) l) }

    pub rows_fit : (z : ℤ) → nat_abs z < 2 ^ 63 → Every Fit (rows_times Lc La Rc Ra z)
    unfolding rows_times
    rows_fit z l = go (not_empty Lc La Rc Ra)
      where
        go : (b : Bool) → Every Fit (cond b (map (row_times Lc La Rc Ra z) (choices 64 0 (branching Lc La Rc Ra) 0)) [])
        go true = every_map (row_times Lc La Rc Ra z) (choices 64 0 (branching Lc La Rc Ra) 0) (row_fits z l) parts
        go false = none

    module _ (room : ℕ) (r : Written) (after : List ℕ) (gives : Gives (multiplied Lc La Rc Ra room) (Ok r) after) where
      -- a call that is not refused leaves the rows, and reports how many they are
      filled : (r.branches ≡ length (rows_times Lc La Rc Ra (pos 1))) ×
          (after ≡ rows_bytes (rows_times Lc La Rc Ra (pos 1)) ++ zeros (room - length (rows_bytes (rows_times Lc La Rc Ra (pos 1)))))
      unfolding multiplied
      filled = go (no_room Lc La Rc Ra room) gives.answer gives.bytes
        where
          o : Bool → Output
          o b = cond b (refused_output room rows_do_not_fit) (filled_output room (length (rows_times Lc La Rc Ra (pos 1))) (rows_bytes (rows_times Lc La Rc Ra (pos 1))))

          go : (b : Bool) → Ok r ≡ (o b).answer → after ≡ (o b).bytes
              → (r.branches ≡ length (rows_times Lc La Rc Ra (pos 1))) ×
              (after ≡ rows_bytes (rows_times Lc La Rc Ra (pos 1)) ++ zeros (room - length (rows_bytes (rows_times Lc La Rc Ra (pos 1)))))
          go true e f = cc
          go false e f = let same : r ≡ record { len = length (rows_bytes (rows_times Lc La Rc Ra (pos 1))); branches = length (rows_times Lc La Rc Ra (pos 1)) } = cc in (ap (λ (w : Written). w.branches) same, f)

      pub rows_left : rows_at after 0 r.branches ≡ rows_times Lc La Rc Ra (pos 1)
      rows_left =
          ap₂ (λ (l : List ℕ) (n : ℕ). rows_at l 0 n) filled.1 filled.0
          ∙ rows_at_is [] (zeros (room - length (rows_bytes (rows_times Lc La Rc Ra (pos 1))))) 0 (rows_times Lc La Rc Ra (pos 1)) refl (rows_fit (pos 1) (lit< tt))

      -- THE PRODUCT: the rows decoded from the output act, as a sum, as R and then L, ladder by ladder, on every word and at every bra
      pub output_acts : (bra ket : ℕ) → element bra ket (rows_at after 0 r.branches) ≡ adds bra (pos 1) (term Lc La (term Rc Ra (went ket false)))
      output_acts bra ket = ap (element bra ket) rows_left ∙ product_acts Lc La Rc Ra hLc hLa hRc hRa bra ket (pos 1)

      -- no two of them have the same words
      pub output_differs : Pairwise Other (rows_at after 0 r.branches)
      output_differs = subst (Pairwise Other) (sym rows_left) (rows_differ (pos 1))

      -- and there are 2^b of them, or none where the product is empty
      pub output_number : r.branches ≡ cond (not_empty Lc La Rc Ra) (2 ^ count 64 (branching Lc La Rc Ra)) 0
      output_number = filled.0 ∙ go (not_empty Lc La Rc Ra) refl
        where
          go : (b : Bool) → not_empty Lc La Rc Ra ≡ b → length (rows_times Lc La Rc Ra (pos 1)) ≡ cond b (2 ^ count 64 (branching Lc La Rc Ra)) 0
          go true e = rows_number Lc La Rc Ra (pos 1) e
          go false e = ap length (rows_none Lc La Rc Ra (pos 1) e)

  -- ---- the refusal

  -- refused with 7 exactly if the product isn't empty and 24 times 2^b exceeds the output's length
  pub refused_where : (room : ℕ) (r : Result Written Refusal) (after : List ℕ) → Gives (multiplied Lc La Rc Ra room) r after
      → number_in r ≡ cond (not_empty Lc La Rc Ra && ltb room (24 * 2 ^ count 64 (branching Lc La Rc Ra))) 7 0
  unfolding multiplied
  refused_where room r after g = ap number_in g.answer ∙ go (no_room Lc La Rc Ra room)
    where
      go : (b : Bool) → number_in (cond b (refused_output room rows_do_not_fit)
          (filled_output room (length (rows_times Lc La Rc Ra (pos 1))) (rows_bytes (rows_times Lc La Rc Ra (pos 1))))).answer ≡ cond b 7 0
      go true = refl
      go false = refl
