-- A word with one mode more: as exclusive or, and what it adds to the parity of exchanges.
use mathlib.Core.Path.{◌≡◌, refl, sym, ap, ap₂, ◌∙◌}
use mathlib.Core.Bool.{Bool, true, false, ◌&&◌, ◌||◌, or-false}
use Prim.Native.Nat.{ℕ, zero, suc, ◌^◌}
use native.Mathlib.Omega.{arith}
use lib.Dec.{eqb}
use lib.Bits.{bit_or, bit_xor}
use borrow.Author.Tests.{ne_eqb, eqb-true}
use Rattle.modes.specs.Bools.{◌⊕◌}
use Rattle.modes.specs.Words.{bit}
use Rattle.modes.specs.Counts.{odd, odd_exchanges}
use Rattle.modes.proofs.Bools.{⊕_false, false_⊕}
use Rattle.modes.proofs.Sets.{odd_none}
use Rattle.modes.proofs.Digits.{bit_of_xor, bit_of_or, bit_pow, bits_xor, ext}
use Rattle.products.proofs.Signs.{more_sign}

one_self : (k q : ℕ) → odd_exchanges k (bit (2 ^ q)) (bit (2 ^ q)) ≡ false
unfolding odd_exchanges
one_self zero q = refl
one_self (suc p) q = rw (one_self p q) (false_⊕ _ ∙ go (eqb p q) refl)
  where
    go : (b : Bool) → eqb p q ≡ b → bit (2 ^ q) p && odd p (bit (2 ^ q)) ≡ false
    go true e = rw (bit_pow q p, e, odd_none p (bit (2 ^ q)) (λ i l. bit_pow q i ∙ ne_eqb i q (λ f. let g = eqb-true p q e in omega arith)))
    go false e = rw (bit_pow q p, e)

-- a word without the mode q, with it
pub or_one : (w q : ℕ) → bit w q ≡ false → bit_or w (2 ^ q) ≡ bit_xor w (2 ^ q)
or_one w q h = ext _ _ (λ i. bit_of_or w (2 ^ q) i ∙ go i (eqb i q) refl ∙ sym (bit_of_xor w (2 ^ q) i))
  where
    go : (i : ℕ) (b : Bool) → eqb i q ≡ b → bit w i || bit (2 ^ q) i ≡ bit w i ⊕ bit (2 ^ q) i
    go i true e = rw (bit_pow q i, e, ap (bit w) (eqb-true i q e) ∙ h) (sym (false_⊕ true))
    go i false e = rw (bit_pow q i, e) (or-false (bit w i) ∙ sym (⊕_false (bit w i)))

pub or_assoc_one : (w S q : ℕ) → bit S q ≡ false → bit_or w (bit_xor S (2 ^ q)) ≡ bit_or (bit_or w S) (2 ^ q)
or_assoc_one w S q h =
    ap (bit_or w) (sym (or_one S q h))
    ∙ ext _ _ (λ i. bit_of_or w (bit_or S (2 ^ q)) i ∙ ap (λ (x : Bool). bit w i || x) (bit_of_or S (2 ^ q) i) ∙ go (bit w i) (bit S i) (bit (2 ^ q) i)
    ∙ sym (bit_of_or (bit_or w S) (2 ^ q) i ∙ ap (λ (x : Bool). x || bit (2 ^ q) i) (bit_of_or w S i)))
  where
    go : (a b c : Bool) → a || (b || c) ≡ (a || b) || c
    go true b c = refl
    go false b c = refl

pub more_exchanges : (a c q : ℕ) → bit a q ≡ false → bit c q ≡ false
    → odd_exchanges 64 (bit (bit_or a (2 ^ q))) (bit (bit_or c (2 ^ q))) ≡ odd_exchanges 64 (bit a) (bit c) ⊕
    (odd_exchanges 64 (bit (2 ^ q)) (bit c) ⊕ odd_exchanges 64 (bit a) (bit (2 ^ q)))
more_exchanges a c q ha hc =
    ap₂ (odd_exchanges 64) (ap bit (or_one a q ha) ∙ bits_xor a (2 ^ q)) (ap bit (or_one c q hc) ∙ bits_xor c (2 ^ q))
    ∙ more_sign 64 (bit a) (bit c) (bit (2 ^ q)) (one_self 64 q)
