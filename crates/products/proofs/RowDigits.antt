-- The words and the sign of a product's row, mode by mode.
use mathlib.Core.Path.{◌≡◌, refl, ap, ap₂, ◌∙◌}
use mathlib.Core.Bool.{Bool, true, false, not, ◌&&◌, ◌||◌}
use Prim.Native.Nat.{ℕ}
use lib.Bits.{bit_and, bit_or, bit_xor}
use Rattle.modes.specs.Bools.{◌⊕◌, same}
use Rattle.modes.specs.Words.{Modes, bit, ◌△◌}
use Rattle.modes.specs.Counts.{odd, odd_exchanges}
use Rattle.modes.proofs.Bools.{false_⊕, of_same, at5, at6}
use Rattle.modes.proofs.Sets.{odd_exchanges_none}
use Rattle.modes.proofs.Digits.{bit_of_xor, bit_of_or, bit_of_and, bits_xor, bit_none, ext}
use Rattle.products.specs.Product.{fine, branch, sign_of, cre_at, ann_at, minus_at}
use Rattle.products.proofs.ClosedForm.{fit}
use Rattle.products.proofs.Signs.{joined}

-- the words of the lowest row
abbrev pub cre_d : Bool → Bool → Bool → Bool
cre_d lc la rc = lc || (rc ⊕ (la && rc))

abbrev pub ann_d : Bool → Bool → Bool → Bool
ann_d la rc ra = ra || (la ⊕ (la && rc))

abbrev pub imp : Bool → Bool → Bool
imp a b = not a || b

pub mp : (a b : Bool) → imp a b ≡ true → a ≡ true → b ≡ true
mp true b h e = h
mp false true h e = refl
mp false false h e = e

-- R and then L is ready where the product is not empty, its lowest row is ready, and no branches mode is occupied
pub then_digit : (lc la rc ra k : Bool) → fit rc ra k && fit lc la ((k ⊕ ra) ⊕ rc)
    ≡ fine lc la rc ra && (fit (cre_d lc la rc) (ann_d la rc ra) k && not (branch lc la rc ra && k))
unfolding ◌⊕◌
then_digit lc la rc ra k =
    of_same _ _ (at5 (λ lc la rc ra k. same (fit rc ra k && fit lc la ((k ⊕ ra) ⊕ rc))
    (fine lc la rc ra && (fit (cre_d lc la rc) (ann_d la rc ra) k && not (branch lc la rc ra && k)))) refl lc la rc ra k)

-- a row that keeps the mode s is ready where the lowest row is, and s is occupied
pub row_digit : (lc la rc ra k s : Bool) → not s || branch lc la rc ra ≡ true
    → fit (cre_d lc la rc || s) (ann_d la rc ra || s) k ≡ fit (cre_d lc la rc) (ann_d la rc ra) k && (not s || k)
unfolding ◌⊕◌
row_digit lc la rc ra k s h =
    of_same _ _ (mp _ _ (at6 (λ lc la rc ra k s. imp (not s || branch lc la rc ra)
    (same (fit (cre_d lc la rc || s) (ann_d la rc ra || s) k) (fit (cre_d lc la rc) (ann_d la rc ra) k && (not s || k)))) refl lc la rc ra k s) h)

-- every row flips the modes that R and then L flip
pub flip_digit : (lc la rc ra s : Bool) → not s || branch lc la rc ra ≡ true → fine lc la rc ra ≡ true
    → (ann_d la rc ra || s) ⊕ (cre_d lc la rc || s) ≡ ((ra ⊕ rc) ⊕ la) ⊕ lc
unfolding ◌⊕◌
flip_digit lc la rc ra s h f =
    of_same _ _ (mp _ _ (mp _ _
    (at5 (λ lc la rc ra s. imp (not s || branch lc la rc ra) (imp (fine lc la rc ra) (same ((ann_d la rc ra || s) ⊕ (cre_d lc la rc || s)) (((ra ⊕ rc) ⊕ la) ⊕ lc)))) refl lc
    la rc ra s) h) f)

-- ---- one row

-- along the empty word only the creations cross what the annihilations change
empty_sign : (c a : ℕ) → sign_of c a 0 ≡ odd_exchanges 64 (bit a) (bit c)
empty_sign c a =
    ap₂ (λ (x : Bool) (w : ℕ). x ⊕ odd_exchanges 64 (bit w) (bit c)) (odd_exchanges_none 64 (bit 0) (bit a) (λ i l. bit_none i))
    (ext _ _ (λ i. bit_of_xor 0 a i ∙ ap (λ (x : Bool). x ⊕ bit a i) (bit_none i) ∙ false_⊕ (bit a i)))
    ∙ false_⊕ _

module _ (Lc La Rc Ra : ℕ) where
  abbrev cre : ℕ → ℕ
  cre = cre_at Lc La Rc Ra

  abbrev ann : ℕ → ℕ
  ann = ann_at Lc La Rc Ra

  abbrev minus : ℕ → Bool
  minus = minus_at Lc La Rc Ra

  -- a row's sign, as the parity of exchange counts
  pub minus_is : (S : ℕ) → minus S ≡ (odd 64 (bit S) ⊕ joined 64 (bit Lc) (bit La) (bit Rc) (bit Ra)) ⊕ odd_exchanges 64 (bit (ann S)) (bit (cre S))
  minus_is S =
      ap₂ (λ (x y : Bool). (odd 64 (bit S) ⊕ x) ⊕ y)
      (ap₂ (λ (x y : Bool). x ⊕ y) (empty_sign Rc Ra)
      (ap₂ (λ (u v : Modes). odd_exchanges 64 u (bit La) ⊕ odd_exchanges 64 v (bit Lc)) (bits_xor Ra Rc)
      (bits_xor (bit_xor Ra Rc) La ∙ ap (λ (u : Modes). u △ bit La) (bits_xor Ra Rc))))
      (empty_sign (cre S) (ann S))

  pub bit_cre : (S p : ℕ) → bit (cre S) p ≡ cre_d (bit Lc p) (bit La p) (bit Rc p) || bit S p
  bit_cre S p = rw (bit_of_or (bit_or Lc (bit_xor Rc (bit_and La Rc))) S p, bit_of_or Lc (bit_xor Rc (bit_and La Rc)) p, bit_of_xor Rc (bit_and La Rc) p, bit_of_and La Rc p)

  pub bit_ann : (S p : ℕ) → bit (ann S) p ≡ ann_d (bit La p) (bit Rc p) (bit Ra p) || bit S p
  bit_ann S p = rw (bit_of_or (bit_or Ra (bit_xor La (bit_and La Rc))) S p, bit_of_or Ra (bit_xor La (bit_and La Rc)) p, bit_of_xor La (bit_and La Rc) p, bit_of_and La Rc p)
