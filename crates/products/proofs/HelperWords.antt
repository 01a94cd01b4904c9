-- What the words that the code works out for one product say: when it is empty, which modes branch, and the sign of its lowest row.
use mathlib.Core.Path.{◌≡◌, refl, sym, ap, ap₂, ◌∙◌}
use mathlib.Core.Bool.{Bool, true, false, not, ◌&&◌, true≢false}
use mathlib.Core.Logic.{◌⊎◌, inl, inr}
use Prim.Native.Nat.{ℕ, ◌-◌, ◌^◌, ◌≤◌, ◌<◌}
use native.Mathlib.Nat.{lt_of_le_of_lt}
use lib.Bits.{bit_and, bit_or, bit_xor, and_le_l, or_zero_r}
use Rattle.modes.specs.Bools.{◌⊕◌}
use Rattle.modes.specs.Words.{Modes, bit, ◌△◌}
use Rattle.modes.specs.Counts.{odd, odd_exchanges}
use Rattle.modes.proofs.Bools.{false_⊕, ⊕_assoc}
use Rattle.modes.proofs.Sets.{each_all, each_at, odd_none}
use Rattle.modes.proofs.Digits.{lt_or_ge, bit_of_and, bit_without, bit_above, bit_none, bits_xor, odd_xor, ext}
use Rattle.products.specs.Product.{not_empty, branching, cre_at, ann_at, minus_at}
use Rattle.products.proofs.Signs.{joined}
use Rattle.products.proofs.RowDigits.{minus_is}

-- `a & b & !c`, mode by mode
and_not : (a b c p : ℕ) → a < 2 ^ 64 → c < 2 ^ 64 → bit (bit_and (bit_and a b) ((2 ^ 64 - 1) - c)) p ≡ bit a p && bit b p && not (bit c p)
and_not a b c p ha hc = bit_without 64 (bit_and a b) c p (lt_of_le_of_lt (and_le_l a b) ha) hc ∙ ap (λ (x : Bool). x && not (bit c p)) (bit_of_and a b p)

-- ---- the lowest row

-- x, y, u, v: the modes that R and then L pass, ladders of R's annihilations aside, and those that the row's own ladders pass
pub lowest_sign : (Lc La Rc Ra x y u v : ℕ)
    → odd 64 (bit x) ≡ odd_exchanges 64 (bit Ra) (bit Rc) → odd 64 (bit y) ≡ odd_exchanges 64 (bit (bit_xor Ra Rc)) (bit La)
    → odd 64 (bit u) ≡ odd_exchanges 64 (bit (bit_xor (bit_xor Ra Rc) La)) (bit Lc)
    → odd 64 (bit v) ≡ odd_exchanges 64 (bit (bit_or Ra (bit_xor La (bit_and La Rc)))) (bit (bit_or Lc (bit_xor Rc (bit_and La Rc))))
    → odd 64 (bit (bit_xor (bit_xor (bit_xor x y) u) v)) ≡ minus_at Lc La Rc Ra 0
lowest_sign Lc La Rc Ra x y u v p q r s =
    odd_xor 64 (bit_xor (bit_xor x y) u) v
    ∙ ap₂ (λ (a b : Bool). a ⊕ b)
    (odd_xor 64 (bit_xor x y) u ∙ ap₂ (λ (a b : Bool). a ⊕ b)
    (odd_xor 64 x y ∙ ap₂ (λ (a b : Bool). a ⊕ b) p (q ∙ ap (λ (w : Modes). odd_exchanges 64 w (bit La)) (bits_xor Ra Rc)))
    (r ∙ ap (λ (w : Modes). odd_exchanges 64 w (bit Lc)) (bits_xor (bit_xor Ra Rc) La ∙ ap (λ (w : Modes). w △ bit La) (bits_xor Ra Rc)))
    ∙ ⊕_assoc _ _ _)
    (s ∙ ap₂ (λ (a c : ℕ). odd_exchanges 64 (bit a) (bit c)) (sym (or_zero_r _)) (sym (or_zero_r _)))
    ∙ sym (minus_is Lc La Rc Ra 0
    ∙ ap (λ (o : Bool). (o ⊕ joined 64 (bit Lc) (bit La) (bit Rc) (bit Ra)) ⊕ odd_exchanges 64 (bit (ann_at Lc La Rc Ra 0)) (bit (cre_at Lc La Rc Ra 0)))
    (odd_none 64 (bit 0) (λ i l. bit_none i))
    ∙ ap (λ (o : Bool). o ⊕ odd_exchanges 64 (bit (ann_at Lc La Rc Ra 0)) (bit (cre_at Lc La Rc Ra 0))) (false_⊕ _))

module _ (Lc La Rc Ra : ℕ) (hLc : Lc < 2 ^ 64) (hLa : La < 2 ^ 64) (hRc : Rc < 2 ^ 64) (hRa : Ra < 2 ^ 64) where
  -- ---- the two words of `destroys`

  abbrev created : ℕ
  created = bit_and (bit_and Lc Rc) ((2 ^ 64 - 1) - La)

  abbrev annihilated : ℕ
  annihilated = bit_and (bit_and La Ra) ((2 ^ 64 - 1) - Rc)

  no_mode : (w p : ℕ) (b : Bool) → w ≡ 0 → bit w p ≡ b → not b ≡ true
  no_mode w p b e h = ap not (sym h ∙ ap (λ (x : ℕ). bit x p) e ∙ bit_none p)

  pub full_where : created ≡ 0 → annihilated ≡ 0 → not_empty Lc La Rc Ra ≡ true
  full_where e f =
      each_all 64 _ (λ p l. ap₂ (λ (x y : Bool). x && y)
      (no_mode created p _ e (and_not Lc Rc La p hLc hLa)) (no_mode annihilated p _ f (and_not La Ra Rc p hLa hRc)))

  -- a product that is not empty has no such mode
  none_where : (w : ℕ) (f : ℕ → Bool) → ((p : ℕ) → bit w p ≡ f p) → ((p : ℕ) → 64 ≤ p → f p ≡ false) → ((p : ℕ) → p < 64 → f p ≡ false)
      → w ≡ 0
  none_where w f is high low = ext _ _ (λ p. is p ∙ at p (lt_or_ge p 64) ∙ sym (bit_none p))
    where
      at : (p : ℕ) → (p < 64) ⊎ (64 ≤ p) → f p ≡ false
      at p (inl l) = low p l
      at p (inr l) = high p l

  not_both : (x y : Bool) → not x && not y ≡ true → (x ≡ false) × (y ≡ false)
  not_both true y e = absurd (true≢false (sym e))
  not_both false true e = absurd (true≢false (sym e))
  not_both false false e = (refl, refl)

  by_full : not_empty Lc La Rc Ra ≡ true → (created ≡ 0) × (annihilated ≡ 0)
  by_full e = (
    none_where created _ (λ p. and_not Lc Rc La p hLc hLa) (λ p l. rw (bit_above 64 Lc p hLc l)) (λ p l. (at p l).0),
    none_where annihilated _ (λ p. and_not La Ra Rc p hLa hRc) (λ p l. rw (bit_above 64 La p hLa l)) (λ p l. (at p l).1),
  )
    where
      at : (p : ℕ) → p < 64 → (bit Lc p && bit Rc p && not (bit La p) ≡ false) × (bit La p && bit Ra p && not (bit Rc p) ≡ false)
      at p l = not_both (bit Lc p && bit Rc p && not (bit La p)) (bit La p && bit Ra p && not (bit Rc p)) (each_at 64 _ e p l)

  empty_where : ((created ≡ 0) × (annihilated ≡ 0) → ⊥) → not_empty Lc La Rc Ra ≡ false
  empty_where n = go (not_empty Lc La Rc Ra) refl
    where
      go : (b : Bool) → not_empty Lc La Rc Ra ≡ b → not_empty Lc La Rc Ra ≡ false
      go true e = absurd (n (by_full e))
      go false e = e

  pub empty_created : (created ≡ 0 → ⊥) → not_empty Lc La Rc Ra ≡ false
  empty_created n = empty_where (λ h. n h.0)

  pub empty_annihilated : (annihilated ≡ 0 → ⊥) → not_empty Lc La Rc Ra ≡ false
  empty_annihilated n = empty_where (λ h. n h.1)

  -- ---- the word of `bifurcations`

  pub bifurcating : (p : ℕ) → bit (bit_and (bit_and (bit_and La Rc) ((2 ^ 64 - 1) - Lc)) ((2 ^ 64 - 1) - Ra)) p ≡ branching Lc La Rc Ra p
  bifurcating p =
      bit_without 64 (bit_and (bit_and La Rc) ((2 ^ 64 - 1) - Lc)) Ra p (lt_of_le_of_lt (and_le_l _ _) (lt_of_le_of_lt (and_le_l La Rc) hLa)) hRa
      ∙ ap (λ (x : Bool). x && not (bit Ra p)) (and_not La Rc Lc p hLa hLc)
