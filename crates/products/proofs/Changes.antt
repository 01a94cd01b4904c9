-- The modes that a term changes, cre xor ann, are those in which the word that it makes differs from the ket.
use mathlib.Core.Path.{◌≡◌, refl, sym, ap, ◌∙◌}
use mathlib.Core.Bool.{Bool, true, false, cond}
use Prim.Native.Nat.{ℕ, ◌^◌, ◌<◌}
use native.Mathlib.Omega.{arith}
use lib.Bits.{bit_xor}
use Rattle.modes.specs.Bools.{◌⊕◌}
use Rattle.modes.specs.Words.{bit}
use Rattle.modes.proofs.Bools.{parity_sum}
use Rattle.modes.proofs.Digits.{bit_of_xor, ext}
use Rattle.products.specs.PhaseRule.{Outcome, gone, went, term}
use Rattle.products.specs.Product.{sign_of}
use Rattle.products.proofs.ClosedForm.{acts, term_is}

-- flipped by a and then by c, a word differs from itself in c xor a
changed : (c a k : ℕ) → bit_xor c a ≡ bit_xor (bit_xor (bit_xor k a) c) k
changed c a k =
    ext _ _ (λ p.
    bit_of_xor c a p ∙ digit (bit c p) (bit a p) (bit k p)
    ∙ sym (bit_of_xor (bit_xor (bit_xor k a) c) k p ∙ ap (λ (x : Bool). x ⊕ bit k p) (bit_of_xor (bit_xor k a) c p ∙ ap (λ (x : Bool). x ⊕ bit c p) (bit_of_xor k a p))))
  where
    digit : (x y z : Bool) → x ⊕ y ≡ ((z ⊕ y) ⊕ x) ⊕ z
    digit x y z = simp parity_sum

module _ (cre ann ket : ℕ) (hc : cre < 2 ^ 64) (ha : ann < 2 ^ 64) where
  pub changes : (word : ℕ) (sign : Bool) → term cre ann (went ket false) ≡ went word sign → bit_xor cre ann ≡ bit_xor word ket
  changes word sign e = go (acts cre ann ket) (sym (term_is cre ann ket false hc ha) ∙ e)
    where
      go : (b : Bool) → cond b (went (bit_xor (bit_xor ket ann) cre) (false ⊕ sign_of cre ann ket)) gone ≡ went word sign → bit_xor cre ann ≡ bit_xor word ket
      go true q = let w : bit_xor (bit_xor ket ann) cre ≡ word = cc in changed cre ann ket ∙ ap (λ (x : ℕ). bit_xor x ket) w
      go false q = let z : ◌≡◌ {A = ℕ} 0 1 = cc in absurd (omega arith)

  -- a term that changes other modes than those in which bra and ket differ does not make bra of ket: what f answers of every
  -- outcome but bra, it answers of the term's
  pub elsewhere : (bra : ℕ) → (bit_xor cre ann ≡ bit_xor bra ket → ⊥) → {A : Type 0} (f : Outcome → A) (z : A) → f gone ≡ z
      → ((word : ℕ) (sign : Bool) → (word ≡ bra → ⊥) → f (went word sign) ≡ z) → f (term cre ann (went ket false)) ≡ z
  elsewhere bra n {A} f z nothing other = go (term cre ann (went ket false)) refl
    where
      go : (o : Outcome) → term cre ann (went ket false) ≡ o → f o ≡ z
      go gone e = nothing
      go (went word sign) e = other word sign (λ q. n (changes word sign e ∙ ap (λ (x : ℕ). bit_xor x ket) q))
