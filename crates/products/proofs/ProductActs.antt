-- The rows of one product act, as a sum, as the right term and then the left.
use mathlib.Core.Path.{◌≡◌, refl, sym, ap, ap₂, ◌∙◌, fun_ext}
use mathlib.Core.Bool.{Bool, true, false, not, cond, ◌&&◌, ◌||◌}
use mathlib.Core.List.{[], map}
use mathlib.Core.Logic.{◌⊎◌, inl, inr}
use Prim.Native.Nat.{ℕ, ◌^◌, ◌≤◌, ◌<◌}
use lib.Dec.{eqb, lit<}
use lib.Bits.{bit_and, bit_or, bit_xor, or_lt, xor_lt, and_lt}
use lib.IntN.{ℤ, pos}
use Rattle.modes.specs.Bools.{◌⊕◌}
use Rattle.modes.specs.Words.{Modes, bit, ◌△◌, each}
use Rattle.modes.specs.Counts.{odd, odd_exchanges}
use Rattle.modes.specs.Sums.{sum_of}
use Rattle.modes.proofs.Sums.{sum_map}
use Rattle.modes.proofs.Bools.{false_⊕, ⊕_assoc, ⊕_comm}
use Rattle.modes.proofs.Sets.{odd_none, each_cong, each_and, each_all, each_at}
use Rattle.modes.proofs.Digits.{lt_or_ge, bit_of_xor, bits_xor, bit_above, bit_none, ext}
use Rattle.products.specs.PhaseRule.{gone, went, term}
use Rattle.products.specs.Operators.{signed, adds, part, element}
use Rattle.products.specs.Product.{fine, sign_of, choices, not_empty, branching, cre_at, ann_at, minus_at, row_times, rows_times}
use Rattle.products.proofs.ClosedForm.{fit, acts, acts_is, term_is, term_gone}
use Rattle.products.proofs.Signs.{signed_zero, signed_signed, joined, two_signs, row_sign}
use Rattle.products.proofs.Sums.{sum_cong, Part, weigh, alternate, from_all}
use Rattle.products.proofs.RowDigits.{cre_d, ann_d, then_digit, row_digit, flip_digit, minus_is, bit_cre, bit_ann}

module _ (Lc La Rc Ra : ℕ) where
  abbrev cre : ℕ → ℕ
  cre = cre_at Lc La Rc Ra

  abbrev ann : ℕ → ℕ
  ann = ann_at Lc La Rc Ra

  abbrev minus : ℕ → Bool
  minus = minus_at Lc La Rc Ra

  abbrev full : Bool
  full = not_empty Lc La Rc Ra

  abbrev branches : Modes
  branches = branching Lc La Rc Ra

  -- where the lowest row is ready
  abbrev base : ℕ → Bool
  base k = each 64 (λ p. fit (cre_d (bit Lc p) (bit La p) (bit Rc p)) (ann_d (bit La p) (bit Rc p) (bit Ra p)) (bit k p))

  row_acts : (k S q : ℕ) → Part q branches S → acts (cre S) (ann S) k ≡ base k && each 64 (λ p. not (bit S p) || bit k p)
  row_acts k S q h =
      acts_is (cre S) (ann S) k
      ∙ each_cong 64 _ _ (λ p l. ap₂ (λ (x y : Bool). fit x y (bit k p)) (bit_cre Lc La Rc Ra S p) (bit_ann Lc La Rc Ra S p)
      ∙ row_digit (bit Lc p) (bit La p) (bit Rc p) (bit Ra p) (bit k p) (bit S p) (h.inside p))
      ∙ each_and 64 _ _

  -- R and then L
  middle : ℕ → ℕ
  middle k = bit_xor (bit_xor k Ra) Rc

  then_acts : (k : ℕ) → acts Rc Ra k && acts Lc La (middle k) ≡ full && (base k && each 64 (λ p. not (branches p && bit k p)))
  unfolding middle
  then_acts k =
      ap₂ (λ (x y : Bool). x && y) (acts_is Rc Ra k) (acts_is Lc La (bit_xor (bit_xor k Ra) Rc))
      ∙ sym (each_and 64 _ _)
      ∙ each_cong 64 _ _ (λ p l. ap (λ (x : Bool). fit (bit Rc p) (bit Ra p) (bit k p) && fit (bit Lc p) (bit La p) x)
      (bit_of_xor (bit_xor k Ra) Rc p ∙ ap (λ (x : Bool). x ⊕ bit Rc p) (bit_of_xor k Ra p))
      ∙ then_digit (bit Lc p) (bit La p) (bit Rc p) (bit Ra p) (bit k p))
      ∙ each_and 64 _ _
      ∙ ap (λ (x : Bool). full && x) (each_and 64 _ _)

  -- the modes that flip, and the sign that all rows share
  flipped : Modes
  flipped = ((bit Ra △ bit Rc) △ bit La) △ bit Lc

  shared : ℕ → Bool
  shared k = joined 64 (bit Lc) (bit La) (bit Rc) (bit Ra) ⊕ odd_exchanges 64 (bit k) flipped

  last : ℕ → ℕ
  last k = bit_xor (bit_xor (bit_xor (bit_xor k Ra) Rc) La) Lc

  then_sign : (k : ℕ) → sign_of Rc Ra k ⊕ sign_of Lc La (middle k) ≡ shared k
  unfolding shared flipped middle
  then_sign k =
      rw (bits_xor (bit_xor (bit_xor k Ra) Rc) La, bits_xor (bit_xor k Ra) Rc, bits_xor k Ra) (two_signs 64 (bit k) (bit Lc) (bit La) (bit Rc) (bit Ra))

  module _ (hLc : Lc < 2 ^ 64) (hLa : La < 2 ^ 64) (hRc : Rc < 2 ^ 64) (hRa : Ra < 2 ^ 64) where
    then_is : (k : ℕ) → term Lc La (term Rc Ra (went k false)) ≡ cond (acts Rc Ra k && acts Lc La (middle k)) (went (last k) (shared k)) gone
    unfolding middle last
    then_is k = ap (term Lc La) (term_is Rc Ra k false hRc hRa) ∙ go (acts Rc Ra k)
      where
        sign : (false ⊕ sign_of Rc Ra k) ⊕ sign_of Lc La (middle k) ≡ shared k
        sign = ap (λ (x : Bool). x ⊕ sign_of Lc La (middle k)) (false_⊕ (sign_of Rc Ra k)) ∙ then_sign k

        go : (b : Bool) → term Lc La (cond b (went (middle k) (false ⊕ sign_of Rc Ra k)) gone) ≡ cond (b && acts Lc La (middle k)) (went (last k) (shared k)) gone
        go true =
            term_is Lc La (bit_xor (bit_xor k Ra) Rc) (false ⊕ sign_of Rc Ra k) hLc hLa
            ∙ ap (λ (x : Bool). cond (acts Lc La (middle k)) (went (last k) x) gone) sign
        go false = term_gone Lc La

    -- an empty product acts as nothing
    pub empty_acts : (k : ℕ) → full ≡ false → term Lc La (term Rc Ra (went k false)) ≡ gone
    empty_acts k e = then_is k ∙ rw (then_acts k, e)

  module _ (good : (p : ℕ) → fine (bit Lc p) (bit La p) (bit Rc p) (bit Ra p) ≡ true) where
    row_flips : (S q : ℕ) → Part q branches S → bit (ann S) △ bit (cre S) ≡ flipped
    unfolding flipped ◌△◌
    row_flips S q h =
        fun_ext (λ p. ap₂ (λ (x y : Bool). x ⊕ y) (bit_ann Lc La Rc Ra S p) (bit_cre Lc La Rc Ra S p)
        ∙ flip_digit (bit Lc p) (bit La p) (bit Rc p) (bit Ra p) (bit S p) (h.inside p) (good p))

    row_word : (k S q : ℕ) → Part q branches S → bit_xor (bit_xor k (ann S)) (cre S) ≡ last k
    unfolding last
    row_word k S q h =
        ext _ _ (λ p.
        bit_of_xor (bit_xor k (ann S)) (cre S) p ∙ ap₂ (λ (x y : Bool). x ⊕ y) (bit_of_xor k (ann S) p) refl
        ∙ ⊕_assoc (bit k p) (bit (ann S) p) (bit (cre S) p)
        ∙ ap (λ (x : Bool). bit k p ⊕ x) (ap₂ (λ (x y : Bool). x ⊕ y) (bit_ann Lc La Rc Ra S p) (bit_cre Lc La Rc Ra S p)
        ∙ flip_digit (bit Lc p) (bit La p) (bit Rc p) (bit Ra p) (bit S p) (h.inside p) (good p))
        ∙ regroup (bit k p) (bit Ra p) (bit Rc p) (bit La p) (bit Lc p)
        ∙ sym (rw (bit_of_xor (bit_xor (bit_xor (bit_xor k Ra) Rc) La) Lc p, bit_of_xor (bit_xor (bit_xor k Ra) Rc) La p, bit_of_xor (bit_xor k Ra) Rc p, bit_of_xor k Ra p)))
      where
        regroup : (k a b c d : Bool) → k ⊕ (((a ⊕ b) ⊕ c) ⊕ d) ≡ (((k ⊕ a) ⊕ b) ⊕ c) ⊕ d
        regroup k a b c d = simp ⊕_assoc

    row_signs : (k S q : ℕ) → Part q branches S
        → minus S ⊕ sign_of (cre S) (ann S) k ≡ odd 64 (bit S) ⊕ shared k
    unfolding shared
    row_signs k S q h =
        ap₂ (λ (m : Bool) (u : Modes). m ⊕ (odd_exchanges 64 (bit k) (bit (ann S)) ⊕ odd_exchanges 64 u (bit (cre S)))) (minus_is Lc La Rc Ra S) (bits_xor k (ann S))
        ∙ row_sign 64 (odd 64 (bit S)) (joined 64 (bit Lc) (bit La) (bit Rc) (bit Ra)) (bit k) (bit (ann S)) (bit (cre S))
        ∙ ap (λ (u : Modes). odd 64 (bit S) ⊕ (joined 64 (bit Lc) (bit La) (bit Rc) (bit Ra) ⊕ odd_exchanges 64 (bit k) u)) (row_flips S q h)

    -- what the lowest row would give if no branches mode were occupied
    worth : ℕ → ℕ → ℤ → ℤ
    worth bra k z = cond (base k) (cond (eqb (last k) bra) (signed (shared k) z) (pos 0)) (pos 0)

    module _ (hLc : Lc < 2 ^ 64) (hLa : La < 2 ^ 64) (hRc : Rc < 2 ^ 64) (hRa : Ra < 2 ^ 64) where
      one_row : (bra k : ℕ) (z : ℤ) (q S : ℕ) → Part q branches S → part bra k (row_times Lc La Rc Ra z S) ≡ weigh (bit k) (worth bra k z) S
      unfolding worth
      one_row bra k z q S h =
          ap (adds bra (signed (minus S) z))
          (term_is (cre S) (ann S) k false
          (or_lt 64 (bit_or Lc (bit_xor Rc (bit_and La Rc))) S (or_lt 64 Lc (bit_xor Rc (bit_and La Rc)) hLc (xor_lt 64 Rc (bit_and La Rc) hRc (and_lt 64 La Rc hLa hRc))) h.small)
          (or_lt 64 (bit_or Ra (bit_xor La (bit_and La Rc))) S (or_lt 64 Ra (bit_xor La (bit_and La Rc)) hRa (xor_lt 64 La (bit_and La Rc) hLa (and_lt 64 La Rc hLa hRc))) h.small))
          ∙ ap₂ (λ (x : Bool) (w : ℕ). adds bra (signed (minus S) z) (cond x (went w (false ⊕ sign_of (cre S) (ann S) k)) gone)) (row_acts k S q h) (row_word k S q h)
          ∙ plumb (base k) (each 64 (λ p. not (bit S p) || bit k p)) (last k) (minus S) (sign_of (cre S) (ann S) k) (odd 64 (bit S)) (shared k) (row_signs k S q h)
        where
          at_bra : (t m s o x : Bool) → m ⊕ s ≡ o ⊕ x → cond t (signed (false ⊕ s) (signed m z)) (pos 0) ≡ signed o (cond t (signed x z) (pos 0))
          at_bra true m s o x e =
              ap (λ (b : Bool). signed b (signed m z)) (false_⊕ s) ∙ signed_signed s m z ∙ ap (λ (b : Bool). signed b z) (⊕_comm s m ∙ e) ∙ sym (signed_signed o x z)
          at_bra false m s o x e = sym (signed_zero o)

          plumb : (F E : Bool) (w : ℕ) (m s o x : Bool) → m ⊕ s ≡ o ⊕ x
              → adds bra (signed m z) (cond (F && E) (went w (false ⊕ s)) gone) ≡ cond E (signed o (cond F (cond (eqb w bra) (signed x z) (pos 0)) (pos 0))) (pos 0)
          plumb true true w m s o x e = at_bra (eqb w bra) m s o x e
          plumb true false w m s o x e = refl
          plumb false true w m s o x e = sym (signed_zero o)
          plumb false false w m s o x e = refl

      both : (bra k : ℕ) (z : ℤ) → adds bra z (term Lc La (term Rc Ra (went k false))) ≡ cond (each 64 (λ p. not (branches p && bit k p))) (worth bra k z) (pos 0)
      unfolding worth
      both bra k z =
          ap (adds bra z) (then_is hLc hLa hRc hRa k)
          ∙ ap (λ (b : Bool). adds bra z (cond b (went (last k) (shared k)) gone))
          (then_acts k ∙ ap (λ (b : Bool). b && (base k && each 64 (λ p. not (branches p && bit k p)))) (each_all 64 _ (λ p l. good p)))
          ∙ plumb (base k) (each 64 (λ p. not (branches p && bit k p)))
        where
          plumb : (F E : Bool) → adds bra z (cond (F && E) (went (last k) (shared k)) gone) ≡ cond E
              (cond F (cond (eqb (last k) bra) (signed (shared k) z) (pos 0)) (pos 0)) (pos 0)
          plumb true true = refl
          plumb true false = refl
          plumb false true = refl
          plumb false false = refl

      rows_act : (bra k : ℕ) (z : ℤ) → sum_of (λ S. part bra k (row_times Lc La Rc Ra z S)) (choices 64 0 branches 0) ≡ adds bra z (term Lc La (term Rc Ra (went k false)))
      rows_act bra k z =
          sum_cong 64 0 branches 0 _ _ refl none (λ q S h. one_row bra k z q S h)
          ∙ alternate (bit k) (worth bra k z) 64 0 branches 0 refl none
          ∙ ap₂ (λ (b : Bool) (z : ℤ). cond b z (pos 0)) (from_all 64 _)
          (ap₂ (λ (b o : Bool). cond b (signed o (worth bra k z)) (pos 0)) (each_all 64 _ (λ i l. ap (λ (x : Bool). not x || bit k i) (bit_none i)))
          (odd_none 64 (bit 0) (λ i l. bit_none i)))
          ∙ sym (both bra k z)
        where
          none : Part 0 branches 0
          none = record { inside = λ i. ap (λ (x : Bool). not x || branches i) (bit_none i); above = λ i l. bit_none i; small = lit< tt }

  module _ (hLc : Lc < 2 ^ 64) (hLa : La < 2 ^ 64) (hRc : Rc < 2 ^ 64) (hRa : Ra < 2 ^ 64) where
    good_from : full ≡ true → (p : ℕ) → fine (bit Lc p) (bit La p) (bit Rc p) (bit Ra p) ≡ true
    good_from e p = go (lt_or_ge p 64)
      where
        go : (p < 64) ⊎ (64 ≤ p) → fine (bit Lc p) (bit La p) (bit Rc p) (bit Ra p) ≡ true
        go (inl l) = each_at 64 _ e p l
        go (inr l) = rw (bit_above 64 Lc p hLc l, bit_above 64 La p hLa l)

    -- the rows act, as a sum, as R and then L on every word, at every bra; where the product is empty, that is nothing everywhere
    pub product_acts : (bra ket : ℕ) (z : ℤ) → element bra ket (rows_times Lc La Rc Ra z) ≡ adds bra z (term Lc La (term Rc Ra (went ket false)))
    unfolding rows_times sum_of
    product_acts bra ket z = go full refl
      where
        go : (b : Bool) → full ≡ b → element bra ket (cond b (map (row_times Lc La Rc Ra z) (choices 64 0 branches 0)) [])
            ≡ adds bra z (term Lc La (term Rc Ra (went ket false)))
        go true e = sum_map (part bra ket) (row_times Lc La Rc Ra z) (choices 64 0 branches 0) ∙ rows_act (good_from e) hLc hLa hRc hRa bra ket z
        go false e = sym (ap (adds bra z) (empty_acts hLc hLa hRc hRa ket e))
