-- Theorems on applying a term: when it succeeds, the new word's count, and that the swapped term restores the ket.
use mathlib.Core.Path.{◌≡◌, refl, sym, ap, ap₂, ◌∙◌}
use mathlib.Core.Bool.{Bool, true, false, not, cond, ◌&&◌, true≢false}
use Prim.Native.Nat.{ℕ, ◌+◌, ◌-◌, ◌^◌, ◌<◌}
use native.Mathlib.Omega.{arith}
use lib.Bits.{bit_xor}
use Rattle.modes.specs.Bools.{◌⊕◌}
use Rattle.modes.specs.Words.{Modes, bit, ◌△◌}
use Rattle.modes.specs.Counts.{parity, count, pairs, odd_exchanges}
use Rattle.modes.specs.declared.Sign.{Sign}
use Rattle.modes.proofs.Bools.{false_⊕, parity_sum}
use Rattle.modes.proofs.Sets.{odd_exchanges_△_l, each_at, each_all}
use Rattle.modes.proofs.Digits.{bit_below, bit_of_xor, bits_xor, ext}
use Rattle.modes.proofs.Counts.{count_sum, count_mono, exchanges_odd, exchanges_self, parity_add}
use Rattle.products.specs.PhaseRule.{gone, went}
use Rattle.products.specs.Apply.{blocked_by, apply_result_of, applied, Ready}
use Rattle.products.specs.declared.ApplyResult.TheVariants.{Applied}
use Rattle.products.specs.Product.{sign_of}
use Rattle.products.proofs.ClosedForm.{fit, acts, acts_is, term_is}

-- ---- ready, mode by mode

ready_digit : (c a k : Bool) → (a ≡ true → k ≡ true) → (c ≡ true → k && not a ≡ false) → fit c a k ≡ true
unfolding ◌⊕◌
ready_digit true true true h f = refl
ready_digit true false true h f = sym (f refl)
ready_digit false true true h f = refl
ready_digit false false true h f = refl
ready_digit c true false h f = h refl
ready_digit true false false h f = refl
ready_digit false false false h f = refl

held_digit : (c a k : Bool) → fit c a k ≡ true → a ≡ true → k ≡ true
held_digit c true true e h = refl
held_digit c true false e h = e
held_digit c false k e h = absurd (true≢false (sym h))

free_digit : (c a k : Bool) → fit c a k ≡ true → c ≡ true → k && not a ≡ false
unfolding ◌⊕◌
free_digit true true true e h = refl
free_digit true true false e h = refl
free_digit true false true e h = sym e
free_digit true false false e h = refl
free_digit false a k e h = absurd (true≢false (sym h))

-- ---- the new word's count, and the way back, mode by mode

count_digit : (c a k : Bool) → fit c a k ≡ true → cond ((k ⊕ a) ⊕ c) 1 0 + cond a 1 0 ≡ cond k 1 0 + cond c 1 0
unfolding ◌⊕◌
count_digit true true true e = refl
count_digit true false true e = absurd (true≢false (sym e))
count_digit false true true e = refl
count_digit false false true e = refl
count_digit c true false e = absurd (true≢false (sym e))
count_digit true false false e = refl
count_digit false false false e = refl

back_digit : (c a k : Bool) → fit c a k ≡ true → fit a c ((k ⊕ a) ⊕ c) ≡ true
unfolding ◌⊕◌
back_digit true true true e = refl
back_digit true false true e = e
back_digit false true true e = refl
back_digit false false true e = refl
back_digit c true false e = absurd (true≢false (sym e))
back_digit true false false e = refl
back_digit false false false e = refl

back_signs : (n : ℕ) (k a c : Modes)
    → odd_exchanges n ((k △ a) △ c) c ⊕ odd_exchanges n (((k △ a) △ c) △ c) a
    ≡ (odd_exchanges n k a ⊕ odd_exchanges n (k △ a) c) ⊕ (odd_exchanges n c c ⊕ odd_exchanges n a a)
back_signs n k a c = simp (odd_exchanges_△_l, parity_sum)

pairs_odd : (u : Modes) → odd_exchanges 64 u u ≡ parity (pairs (count 64 u))
pairs_odd u = sym (exchanges_odd 64 u u) ∙ ap parity (exchanges_self 64 u)

module _ (cre ann ket : ℕ) (hc : cre < 2 ^ 64) (ha : ann < 2 ^ 64) where
  ready_acts : Ready cre ann ket → acts cre ann ket ≡ true
  ready_acts r = acts_is cre ann ket ∙ each_all 64 _ (λ p l. ready_digit (bit cre p) (bit ann p) (bit ket p) (r.held p) (r.free p))

  pub acts_ready : acts cre ann ket ≡ true → Ready cre ann ket
  acts_ready e = record {
    held = λ p h. held_digit (bit cre p) (bit ann p) (bit ket p) (at p (bit_below 64 ann p ha h)) h;
    free = λ p h. free_digit (bit cre p) (bit ann p) (bit ket p) (at p (bit_below 64 cre p hc h)) h;
  }
    where
      at : (p : ℕ) → p < 64 → fit (bit cre p) (bit ann p) (bit ket p) ≡ true
      at = each_at 64 _ (sym (acts_is cre ann ket) ∙ e)

  -- ---- when it succeeds

  pub applied_where_ready : Ready cre ann ket → applied cre ann ket ≡ Applied (bit_xor (bit_xor ket ann) cre) (record { 0 = sign_of cre ann ket })
  applied_where_ready r =
      ap (apply_result_of (blocked_by cre ann ket)) (term_is cre ann ket false hc ha) ∙ rw (ready_acts r, false_⊕ (sign_of cre ann ket))

  -- an answer that is not Zero is of a ket that is ready
  pub ready_where_applied : (w : ℕ) (s : Sign) → applied cre ann ket ≡ Applied w s → Ready cre ann ket
  ready_where_applied w s e = go (acts cre ann ket) refl (sym (ap (apply_result_of (blocked_by cre ann ket)) (term_is cre ann ket false hc ha)) ∙ e)
    where
      go : (b : Bool) → acts cre ann ket ≡ b
          → apply_result_of (blocked_by cre ann ket) (cond b (went (bit_xor (bit_xor ket ann) cre) (false ⊕ sign_of cre ann ket)) gone) ≡ Applied w s → Ready cre ann ket
      go true q r = acts_ready q
      go false q r = let z : ◌≡◌ {A = ℕ} 0 1 = cc in absurd (omega arith)

  module _ (w : ℕ) (s : Sign) (e : applied cre ann ket ≡ Applied w s) where
    is_ready : Ready cre ann ket
    is_ready = ready_where_applied w s e

    at_mode : (p : ℕ) → p < 64 → fit (bit cre p) (bit ann p) (bit ket p) ≡ true
    at_mode = each_at 64 _ (sym (acts_is cre ann ket) ∙ ready_acts is_ready)

    word : w ≡ bit_xor (bit_xor ket ann) cre
    word = let h = sym e ∙ applied_where_ready is_ready in cc

    sign : s.0 ≡ sign_of cre ann ket
    sign = let h = sym e ∙ applied_where_ready is_ready in let g : s ≡ record { 0 = sign_of cre ann ket } = cc in ap (λ (x : Sign). x.0) g

    bit_word : (p : ℕ) → bit w p ≡ (bit ket p ⊕ bit ann p) ⊕ bit cre p
    bit_word p = ap (λ (x : ℕ). bit x p) word ∙ bit_of_xor (bit_xor ket ann) cre p ∙ ap (λ (x : Bool). x ⊕ bit cre p) (bit_of_xor ket ann p)

    -- ---- the new word has the ket's count minus annihilations plus creations

    pub new_count : count 64 (bit w) ≡ (count 64 (bit ket) - count 64 (bit ann)) + count 64 (bit cre)
    new_count =
        let sum : count 64 (bit w) + count 64 (bit ann) ≡ count 64 (bit ket) + count 64 (bit cre) =
        count_sum 64 (bit w) (bit ann) (bit ket) (bit cre)
        (λ p l. ap (λ (x : Bool). cond x 1 0 + cond (bit ann p) 1 0) (bit_word p) ∙ count_digit (bit cre p) (bit ann p) (bit ket p) (at_mode p l)) in
        omega (arith, count_mono 64 (bit ann) (bit ket) is_ready.held)

    -- ---- the swapped term restores the ket; its sign differs exactly if pairs(cre) + pairs(ann) is odd

    back_word : bit_xor (bit_xor w cre) ann ≡ ket
    back_word =
        ext _ _ (λ p.
        bit_of_xor (bit_xor w cre) ann p ∙ ap (λ (x : Bool). x ⊕ bit ann p) (bit_of_xor w cre p ∙ ap (λ (x : Bool). x ⊕ bit cre p) (bit_word p))
        ∙ undo (bit ket p) (bit ann p) (bit cre p))
      where
        undo : (k a c : Bool) → (((k ⊕ a) ⊕ c) ⊕ c) ⊕ a ≡ k
        undo k a c = simp parity_sum

    back_acts : acts ann cre w ≡ true
    back_acts =
        acts_is ann cre w
        ∙ each_all 64 _ (λ p l. ap (fit (bit ann p) (bit cre p)) (bit_word p) ∙ back_digit (bit cre p) (bit ann p) (bit ket p) (at_mode p l))

    back_sign : sign_of ann cre w ≡ s.0 ⊕ parity (pairs (count 64 (bit cre)) + pairs (count 64 (bit ann)))
    back_sign =
        rw (bits_xor w cre, ap bit word ∙ bits_xor (bit_xor ket ann) cre, bits_xor ket ann) (back_signs 64 (bit ket) (bit ann) (bit cre))
        ∙ ap₂ (λ (x y : Bool). x ⊕ y) (ap (λ (u : Modes). odd_exchanges 64 (bit ket) (bit ann) ⊕ odd_exchanges 64 u (bit cre)) (sym (bits_xor ket ann)) ∙ sym sign)
        (ap₂ (λ (x y : Bool). x ⊕ y) (pairs_odd (bit cre)) (pairs_odd (bit ann)) ∙ sym (parity_add (pairs (count 64 (bit cre))) (pairs (count 64 (bit ann)))))

    pub swapped_restores : applied ann cre w ≡ Applied ket (record { 0 = s.0 ⊕ parity (pairs (count 64 (bit cre)) + pairs (count 64 (bit ann))) })
    swapped_restores =
        ap (apply_result_of (blocked_by ann cre w)) (term_is ann cre w false ha hc)
        ∙ rw (back_acts, back_word, false_⊕ (sign_of ann cre w), back_sign)
