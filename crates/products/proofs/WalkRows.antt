-- The walk from the lowest row, over all branching modes, gives the product's rows in their order.
use mathlib.Core.Path.{◌≡◌, refl, sym, ap, ap₂, ◌∙◌, fun_ext}
use mathlib.Core.Bool.{Bool, true, false, ◌||◌, true≢false}
use mathlib.Core.List.{List, [], ◌∷◌, ◌++◌, map, map-append}
use mathlib.Core.Logic.{◌⊎◌, inl, inr}
use Prim.Native.Nat.{ℕ, zero, suc, ◌-◌, ◌^◌, ◌<◌}
use native.Mathlib.Nat.{lt_of_le_of_lt}
use native.Mathlib.Omega.{arith}
use lib.Bits.{bit_and, bit_or, bit_xor, and_le_l}
use lib.IntN.{ℤ}
use borrow.Author.Tests.{ne_eqb}
use Rattle.modes.specs.Bools.{◌⊕◌}
use Rattle.modes.specs.Words.{Modes, bit}
use Rattle.modes.specs.Counts.{count, odd, odd_exchanges}
use Rattle.modes.specs.declared.Term.{Term}
use Rattle.modes.proofs.Bools.{parity_sum}
use Rattle.modes.proofs.Sets.{odd_△}
use Rattle.modes.proofs.Digits.{bit_of_or, bit_pow, bits_xor, bit_none}
use Rattle.modes.proofs.Lowest.{Lowest, lowest, lowest_is, lowest_less, lowest_small}
use Rattle.lent.proofs.RowLaws.{term_of}
use Rattle.products.specs.Operators.{signed}
use Rattle.products.specs.Product.{branch, choices, branching, cre_at, ann_at, minus_at, row_times}
use Rattle.products.specs.Walk.{keeping, walk}
use Rattle.products.proofs.Signs.{signed_signed, joined}
use Rattle.products.proofs.Sums.{odd_one}
use Rattle.products.proofs.RowDigits.{cre_d, ann_d, bit_cre, bit_ann, minus_is}
use Rattle.products.proofs.Choices.{choices_lowest}
use Rattle.products.proofs.Walks.{fewer_left, none_left}
use Rattle.products.proofs.OneMore.{or_one, or_assoc_one, more_exchanges}

module _ (Lc La Rc Ra : ℕ) where
  abbrev cre : ℕ → ℕ
  cre = cre_at Lc La Rc Ra

  abbrev ann : ℕ → ℕ
  ann = ann_at Lc La Rc Ra

  -- the row with one mode more is the row that keeps it
  row_more : (z : ℤ) (S q : ℕ) → q < 64 → bit S q ≡ false → bit (cre S) q ≡ false → bit (ann S) q ≡ false
      → row_times Lc La Rc Ra z (bit_xor S (2 ^ q)) ≡ keeping (2 ^ q) (row_times Lc La Rc Ra z S)
  row_more z S q l hS hc ha =
      term_of (or_assoc_one (bit_or Ra (bit_xor La (bit_and La Rc))) S q hS) (or_assoc_one (bit_or Lc (bit_xor Rc (bit_and La Rc))) S q hS)
      (ap (λ (b : Bool). signed b z) sign ∙ sym
      (signed_signed (true ⊕ (odd_exchanges 64 (bit (2 ^ q)) (bit (cre S)) ⊕ odd_exchanges 64 (bit (ann S)) (bit (2 ^ q)))) (minus_at Lc La Rc Ra S) z))
    where
      regroup : (o t j c d : Bool) → ((o ⊕ t) ⊕ j) ⊕ (c ⊕ d) ≡ (t ⊕ d) ⊕ ((o ⊕ j) ⊕ c)
      regroup o t j c d = simp parity_sum

      kept : odd 64 (bit (bit_xor S (2 ^ q))) ≡ odd 64 (bit S) ⊕ true
      kept = ap (odd 64) (bits_xor S (2 ^ q)) ∙ odd_△ 64 (bit S) (bit (2 ^ q)) ∙ ap (λ (x : Bool). odd 64 (bit S) ⊕ x) (odd_one 64 q l)

      sign : minus_at Lc La Rc Ra (bit_xor S (2 ^ q))
          ≡ (true ⊕ (odd_exchanges 64 (bit (2 ^ q)) (bit (cre S)) ⊕ odd_exchanges 64 (bit (ann S)) (bit (2 ^ q)))) ⊕ minus_at Lc La Rc Ra S
      sign =
          minus_is Lc La Rc Ra (bit_xor S (2 ^ q))
          ∙ ap₂ (λ (x y : Bool). (x ⊕ joined 64 (bit Lc) (bit La) (bit Rc) (bit Ra)) ⊕ y) kept
          (ap₂ (λ (x y : ℕ). odd_exchanges 64 (bit x) (bit y)) (or_assoc_one (bit_or Ra (bit_xor La (bit_and La Rc))) S q hS)
          (or_assoc_one (bit_or Lc (bit_xor Rc (bit_and La Rc))) S q hS)
          ∙ more_exchanges (ann S) (cre S) q ha hc)
          ∙ regroup (odd 64 (bit S)) true (joined 64 (bit Lc) (bit La) (bit Rc) (bit Ra)) _ _
          ∙ ap (λ (x : Bool). (true ⊕ (odd_exchanges 64 (bit (2 ^ q)) (bit (cre S)) ⊕ odd_exchanges 64 (bit (ann S)) (bit (2 ^ q)))) ⊕ x) (sym (minus_is Lc La Rc Ra S))

  -- ---- the modes that are left are in none of the three words

  record Free (left S : ℕ) : Type 0 where
    pub cre_f : (i : ℕ) → bit left i ≡ true → bit (cre S) i ≡ false
    pub ann_f : (i : ℕ) → bit left i ≡ true → bit (ann S) i ≡ false
    pub kept_f : (i : ℕ) → bit left i ≡ true → bit S i ≡ false

  module _ (left S : ℕ) (h : 0 < left) (b : left < 2 ^ 64) (f : Free left S) where
    l : Lowest left
    l = lowest left h

    less : ℕ
    less = bit_and left (left - 1)

    others : (i : ℕ) → bit less i ≡ true → i ≡ l.at → ⊥
    unfolding less
    others i e q = true≢false (sym e ∙ ap (bit less) q ∙ (lowest_less left l).lost)

    still : (i : ℕ) → bit less i ≡ true → bit left i ≡ true
    unfolding less
    still i e = (lowest_less left l).rest i (others i e) ∙ e

    free_low : Free less S
    free_low = record { cre_f = λ i e. f.cre_f i (still i e); ann_f = λ i e. f.ann_f i (still i e); kept_f = λ i e. f.kept_f i (still i e) }

    kept_at : bit S l.at ≡ false
    kept_at = f.kept_f l.at (lowest_less left l).has

    with_one : (w i : ℕ) → bit w i ≡ false → (i ≡ l.at → ⊥) → bit (bit_or w (2 ^ l.at)) i ≡ false
    with_one w i e n = bit_of_or w (2 ^ l.at) i ∙ ap₂ (λ (x y : Bool). x || y) e (bit_pow l.at i ∙ ne_eqb i l.at n)

    free_high : Free less (bit_xor S (2 ^ l.at))
    free_high = record {
      cre_f = λ i e. ap (λ (x : ℕ). bit x i) (or_assoc_one (bit_or Lc (bit_xor Rc (bit_and La Rc))) S l.at kept_at) ∙ with_one (cre S) i (f.cre_f i (still i e)) (others i e);
      ann_f = λ i e. ap (λ (x : ℕ). bit x i) (or_assoc_one (bit_or Ra (bit_xor La (bit_and La Rc))) S l.at kept_at) ∙ with_one (ann S) i (f.ann_f i (still i e)) (others i e);
      kept_f = λ i e. ap (λ (x : ℕ). bit x i) (sym (or_one S l.at kept_at)) ∙ with_one S i (f.kept_f i (still i e)) (others i e);
    }

    more_row : (z : ℤ) → row_times Lc La Rc Ra z (bit_xor S (2 ^ l.at)) ≡ keeping (left - less) (row_times Lc La Rc Ra z S)
    unfolding less
    more_row z =
        row_more z S l.at (lowest_small 64 left l b) kept_at (f.cre_f l.at (lowest_less left l).has) (f.ann_f l.at (lowest_less left l).has)
        ∙ ap (λ (w : ℕ). keeping w (row_times Lc La Rc Ra z S)) (sym (lowest_is left l))

  -- no mode to choose from: one set
  one_choice : (n p : ℕ) (B : Modes) (S : ℕ) → ((i : ℕ) → B i ≡ false) → choices n p B S ≡ S ∷ []
  unfolding choices
  one_choice zero p B S h = refl
  one_choice (suc n) p B S h = rw (h p) (one_choice n (suc p) B S h)

  nothing : (z : ℤ) (left S : ℕ) → left ≡ 0 → map (row_times Lc La Rc Ra z) (choices 64 0 (bit left) S) ≡ row_times Lc La Rc Ra z S ∷ []
  nothing z left S e = ap (map (row_times Lc La Rc Ra z)) (one_choice 64 0 (bit left) S (λ i. ap (λ (x : ℕ). bit x i) e ∙ bit_none i))

  zero_or_pos : (n : ℕ) → (n ≡ 0) ⊎ (0 < n)
  zero_or_pos zero = inl refl
  zero_or_pos (suc n) = inr (omega arith)

  walk_is : (z : ℤ) (n left S : ℕ) → count 64 (bit left) ≡ n → left < 2 ^ 64 → Free left S
      → walk n left (row_times Lc La Rc Ra z S) ≡ map (row_times Lc La Rc Ra z) (choices 64 0 (bit left) S)
  unfolding walk less
  walk_is z zero left S k b f = go (zero_or_pos left)
    where
      go : (left ≡ 0) ⊎ (0 < left) → row_times Lc La Rc Ra z S ∷ [] ≡ map (row_times Lc La Rc Ra z) (choices 64 0 (bit left) S)
      go (inl e) = sym (nothing z left S e)
      go (inr h) = absurd (omega (arith, fewer_left left h b))
  walk_is z (suc n) left S k b f = go (λ left S k b f. walk_is z n left S k b f) (zero_or_pos left)
    where
      go : ((left S : ℕ) → count 64 (bit left) ≡ n → left < 2 ^ 64 → Free left S → walk n left (row_times Lc La Rc Ra z S) ≡ map (row_times Lc La Rc Ra z)
          (choices 64 0 (bit left) S))
          → (left ≡ 0) ⊎ (0 < left)
          → walk n (bit_and left (left - 1)) (row_times Lc La Rc Ra z S) ++ walk n (bit_and left (left - 1)) (keeping (left - bit_and left (left - 1)) (row_times Lc La Rc Ra z S))
          ≡ map (row_times Lc La Rc Ra z) (choices 64 0 (bit left) S)
      go rec (inl e) = absurd (omega (arith, none_left left e))
      go rec (inr h) =
          let q = (l left S h b f).at in
          let w = bit_and left (left - 1) in
          ap (λ (t : Term). walk n w (row_times Lc La Rc Ra z S) ++ walk n w t) (sym (more_row left S h b f z))
          ∙ ap₂ (λ (x y : List Term). x ++ y)
          (rec w S (omega (arith, fewer_left left h b)) (lt_of_le_of_lt (and_le_l left (left - 1)) b) (free_low left S h b f))
          (rec w (bit_xor S (2 ^ q)) (omega (arith, fewer_left left h b)) (lt_of_le_of_lt (and_le_l left (left - 1)) b) (free_high left S h b f))
          ∙ sym (map-append (row_times Lc La Rc Ra z) (choices 64 0 (bit w) S) (choices 64 0 (bit w) (bit_xor S (2 ^ q))))
          ∙ ap (map (row_times Lc La Rc Ra z)) (sym (choices_lowest left S h b (l left S h b f)))

  -- ---- the start: all branching modes are left, and none is kept

  cre_digit : (lc la rc ra : Bool) → branch lc la rc ra ≡ true → cre_d lc la rc || false ≡ false
  unfolding ◌⊕◌
  cre_digit true true true ra e = sym e
  cre_digit true true false ra e = sym e
  cre_digit true false rc ra e = sym e
  cre_digit false true true ra e = refl
  cre_digit false true false ra e = refl
  cre_digit false false rc ra e = absurd (true≢false (sym e))

  ann_digit : (lc la rc ra : Bool) → branch lc la rc ra ≡ true → ann_d la rc ra || false ≡ false
  unfolding ◌⊕◌
  ann_digit true true true ra e = absurd (true≢false (sym e))
  ann_digit true true false ra e = absurd (true≢false (sym e))
  ann_digit true false rc ra e = absurd (true≢false (sym e))
  ann_digit false true true true e = absurd (true≢false (sym e))
  ann_digit false true true false e = refl
  ann_digit false true false ra e = absurd (true≢false (sym e))
  ann_digit false false rc ra e = absurd (true≢false (sym e))

  module _ (w : ℕ) (b : w < 2 ^ 64) (is : (p : ℕ) → bit w p ≡ branching Lc La Rc Ra p) where
    free_start : Free w 0
    free_start = record {
      cre_f =
          λ i e. bit_cre Lc La Rc Ra 0 i ∙ ap (λ (x : Bool). cre_d (bit Lc i) (bit La i) (bit Rc i) || x) (bit_none i) ∙ cre_digit (bit Lc i) (bit La i) (bit Rc i)
          (bit Ra i) (sym (is i) ∙ e);
      ann_f =
          λ i e. bit_ann Lc La Rc Ra 0 i ∙ ap (λ (x : Bool). ann_d (bit La i) (bit Rc i) (bit Ra i) || x) (bit_none i) ∙ ann_digit (bit Lc i) (bit La i) (bit Rc i)
          (bit Ra i) (sym (is i) ∙ e);
      kept_f = λ i e. bit_none i;
    }

    pub walk_rows : (z : ℤ) → walk (count 64 (bit w)) w (row_times Lc La Rc Ra z 0) ≡ map (row_times Lc La Rc Ra z) (choices 64 0 (branching Lc La Rc Ra) 0)
    walk_rows z = walk_is z (count 64 (bit w)) w 0 refl b free_start ∙ ap (λ (B : Modes). map (row_times Lc La Rc Ra z) (choices 64 0 B 0)) (fun_ext is)

    pub branching_number : count 64 (bit w) ≡ count 64 (branching Lc La Rc Ra)
    branching_number = ap (count 64) (fun_ext is)
