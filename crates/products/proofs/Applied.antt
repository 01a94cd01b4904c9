-- What the code's tests on words say, and that its answers are those of the phase rule.
use mathlib.Core.Path.{◌≡◌, refl, sym, ap, ap₂, ◌∙◌, fun_ext}
use mathlib.Core.Bool.{Bool, true, false, not, ◌&&◌, and-false}
use Prim.Native.Nat.{ℕ, ◌-◌, ◌^◌, ◌<◌}
use native.Mathlib.Omega.{arith}
use native.Mathlib.Nat.{lt_of_le_of_lt}
use lib.Bits.{bit_and, bit_or, bit_xor, and_le_l, and_le_r, xor_add_and, or_disjoint, xor_disjoint, and_comm}
use Rattle.modes.specs.Bools.{◌⊕◌}
use Rattle.modes.specs.Words.{Modes, bit, lowest_mode}
use Rattle.modes.specs.Counts.{odd, odd_exchanges}
use Rattle.modes.specs.declared.Sign.{Sign}
use Rattle.modes.proofs.Bools.{⊕_false, false_⊕, ⊕_self, and_l, and_r}
use Rattle.modes.proofs.Digits.{bit_of_xor, bit_of_and, bit_none, odd_xor, ext}
use Rattle.modes.proofs.LowestMode.{lowest_lt}
use Rattle.products.specs.Apply.{is_missing, is_occupied, applied}
use Rattle.products.specs.declared.Blocked.TheVariants.{Missing, Occupied}
use Rattle.products.specs.declared.ApplyResult.TheVariants.{Applied, Zero}
use Rattle.products.specs.Product.{sign_of}
use Rattle.products.proofs.Applying.{applied_where_ready}
use Rattle.products.proofs.Blocking.{free_at, first_missing, zero_where_missing, first_occupied, zero_where_occupied}

-- `w ^ a`, where a is a part of w
without : (w a : ℕ) → ((p : ℕ) → bit a p ≡ true → bit w p ≡ true) → (p : ℕ) → bit (bit_xor w a) p ≡ bit w p && not (bit a p)
without w a h p = bit_of_xor w a p ∙ digit (bit w p) (bit a p) (h p)
  where
    digit : (x y : Bool) → (y ≡ true → x ≡ true) → x ⊕ y ≡ x && not y
    digit true true q = ⊕_self true
    digit true false q = ⊕_false true
    digit false true q = false_⊕ true ∙ sym (q refl)
    digit false false q = ⊕_false false

-- `w - a`, where a is a part of w, is the same word
less_is_xor : (w a : ℕ) → ((p : ℕ) → bit a p ≡ true → bit w p ≡ true) → w - a ≡ bit_xor w a
less_is_xor w a h = omega (arith, xor_add_and w a, part)
  where
    digit : (x y : Bool) → (y ≡ true → x ≡ true) → x && y ≡ y
    digit x true q = rw (q refl)
    digit x false q = and-false x

    part : bit_and w a ≡ a
    part = ext _ _ (λ p. bit_of_and w a p ∙ digit (bit w p) (bit a p) (h p))

module _ (cre ann ket : ℕ) (hc : cre < 2 ^ 64) (ha : ann < 2 ^ 64) where
  -- the words of the code: the annihilated modes that the ket lacks, the word after the annihilations, and its created modes
  abbrev missing : ℕ
  missing = ann - bit_and ket ann

  abbrev after : ℕ
  after = bit_xor ket ann

  abbrev occupied : ℕ
  occupied = bit_and cre after

  missing_bits : bit missing ≡ is_missing ann ket
  missing_bits =
      fun_ext
      (λ p.
      ap (λ (w : ℕ). bit w p) (less_is_xor ann had part) ∙ without ann had part p ∙ ap (λ (x : Bool). bit ann p && not x) (bit_of_and ket ann p)
      ∙ digit (bit ket p) (bit ann p))
    where
      had : ℕ
      had = bit_and ket ann

      part : (p : ℕ) → bit had p ≡ true → bit ann p ≡ true
      part p h = and_r (bit ket p) (bit ann p) (sym (bit_of_and ket ann p) ∙ h)

      digit : (x y : Bool) → y && not (x && y) ≡ y && not x
      digit true true = refl
      digit true false = refl
      digit false y = refl

  -- `ket & ann == ann`
  held : bit_and ket ann ≡ ann → (p : ℕ) → bit ann p ≡ true → bit ket p ≡ true
  held e p h = and_l (bit ket p) (bit ann p) (sym (bit_of_and ket ann p) ∙ ap (λ (w : ℕ). bit w p) e ∙ h)

  some_missing : (bit_and ket ann ≡ ann → ⊥) → missing ≡ 0 → ⊥
  some_missing n e = n (omega (arith, and_le_r ket ann))

  occupied_bits : bit_and ket ann ≡ ann → bit occupied ≡ is_occupied cre ann ket
  occupied_bits e = fun_ext (λ p. bit_of_and cre after p ∙ ap (λ (x : Bool). bit cre p && x) (without ket ann (held e) p))

  free : bit_and ket ann ≡ ann → occupied ≡ 0 → (p : ℕ) → bit cre p ≡ true → bit ket p && not (bit ann p) ≡ false
  free m e p = free_at cre ann ket p (sym (ap (λ (u : Modes). u p) (occupied_bits m)) ∙ ap (λ (w : ℕ). bit w p) e ∙ bit_none p)

  pub zero_missing : (bit_and ket ann ≡ ann → ⊥) → (p : ℕ) → p ≡ lowest_mode 64 (bit missing) → Zero (Missing p) ≡ applied cre ann ket
  zero_missing n p e =
      sym (zero_where_missing cre ann ket hc ha p (first_missing cre ann ket hc ha p (sym (e ∙ ap (lowest_mode 64) missing_bits))
      (rw e (lowest_lt 64 missing (omega arith) (some_missing n)))))

  pub zero_occupied : bit_and ket ann ≡ ann → (occupied ≡ 0 → ⊥) → (p : ℕ) → p ≡ lowest_mode 64 (bit occupied) → Zero (Occupied p) ≡ applied cre ann ket
  zero_occupied m n p e =
      sym (zero_where_occupied cre ann ket hc ha p (first_occupied cre ann ket hc ha (held m) p (sym (e ∙ ap (lowest_mode 64) (occupied_bits m)))
      (rw e (lowest_lt 64 occupied (lt_of_le_of_lt (and_le_l cre after) hc) n))))

  -- x and y have as many modes, modulo 2, as there are exchanges of the annihilations and of the creations, and s is their sign
  pub applied_is : bit_and ket ann ≡ ann → occupied ≡ 0 → (x y : ℕ) (s : Sign)
      → odd 64 (bit x) ≡ odd_exchanges 64 (bit ket) (bit ann) → odd 64 (bit y) ≡ odd_exchanges 64 (bit after) (bit cre)
      → s.0 ≡ odd 64 (bit (bit_xor x y)) → Applied (bit_or after cre) s ≡ applied cre ann ket
  applied_is e d x y s p q r =
      ap₂ Applied word (sign_path (r ∙ sign)) ∙ sym (applied_where_ready cre ann ket hc ha (record { held = held e; free = free e d }))
    where
      sign_path : {a : Sign} {b : Bool} → a.0 ≡ b → ◌≡◌ {A = Sign} a (record { 0 = b })
      sign_path h = λ i. record { 0 = h i }

      apart : bit_and after cre ≡ 0
      apart = and_comm after cre ∙ d

      word : bit_or after cre ≡ bit_xor after cre
      word = or_disjoint after cre apart ∙ sym (xor_disjoint after cre apart)

      sign : odd 64 (bit (bit_xor x y)) ≡ sign_of cre ann ket
      sign = odd_xor 64 x y ∙ ap₂ (λ (a b : Bool). a ⊕ b) p q
