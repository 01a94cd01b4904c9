-- The element that takes A to C is that of the terms with fewer annihilations than A, and the coefficient of {C|A} with a sign.
use mathlib.Core.Path.{◌≡◌, refl, sym, ap, ap₂, ◌∙◌, subst}
use mathlib.Core.Bool.{Bool, true, false, not, cond, ◌&&◌, ◌||◌, true≢false}
use mathlib.Core.List.{List, [], ◌∷◌}
use mathlib.Core.Logic.{◌⊎◌, inl, inr}
use Prim.Native.Nat.{ℕ, zero, suc, ◌+◌, ◌^◌, ◌≤◌, ◌<◌, zero-le}
use native.Mathlib.Nat.{lt-suc_self, not-suc-le-zero, eq-or-lt_of_le, le_of_suc-le-suc, lt_irrefl}
use native.Mathlib.Omega.{arith}
use lib.Dec.{eqb, ltb}
use lib.Bits.{bit_xor, xor_self, xor_zero_l}
use lib.IntN.{ℤ, pos, neg_ℤ, ◌+ℤ◌, +ℤ_idl, +ℤ_assoc, neg_ℤ-neg_ℤ}
use borrow.Author.Tests.{ne_eqb, eq-eqb, eqb-true, ltb-true, ltb-false}
use Rattle.modes.specs.Bools.{◌⊕◌}
use Rattle.modes.specs.Words.{Modes, bit}
use Rattle.modes.specs.Counts.{count}
use Rattle.modes.specs.Sums.{sum_of}
use Rattle.modes.specs.declared.Term.{Term}
use Rattle.modes.proofs.Sums.{exchange, cancel}
use Rattle.modes.proofs.Bools.{⊕_false, false_⊕, ⊕_self, and_l, and_r}
use Rattle.modes.proofs.Sets.{each_all, each_at}
use Rattle.modes.proofs.Digits.{lt_or_ge, bit_above, ext}
use Rattle.modes.specs.Every.{Every, none, more}
use Rattle.products.specs.PhaseRule.{gone, went}
use Rattle.products.specs.Operators.{signed, adds, part, element}
use Rattle.products.proofs.Signs.{signed_zero, signed_add}
use Rattle.products.specs.Product.{sign_of}
use Rattle.products.proofs.ClosedForm.{fit, acts, acts_is, term_is}
use Rattle.modes.specs.Terms.{annihilations}
use Rattle.record.specs.Coefficients.{coeff_in, coeff_of}
use Rattle.record.proofs.Fewer.{fewer}

unsign : (s : Bool) (y z : ℤ) → signed s y ≡ signed s z → y ≡ z
unsign true y z e = sym (neg_ℤ-neg_ℤ y) ∙ ap neg_ℤ e ∙ neg_ℤ-neg_ℤ z
unsign false y z e = e

-- ---- a part of a set that is as large as the set is the set

count_part : (k : ℕ) (u v : Modes) → ((p : ℕ) → p < k → not (u p) || v p ≡ true) → count k u ≤ count k v
unfolding count
count_part zero u v h = zero-le
count_part (suc j) u v h = go (u j) (v j) (h j (lt-suc_self j)) (count_part j u v (λ p l. h p (omega arith)))
  where
    go : (a b : Bool) → not a || b ≡ true → count j u ≤ count j v → count j u + cond a 1 0 ≤ count j v + cond b 1 0
    go true true q r = omega arith
    go true false q r = absurd (true≢false (sym q))
    go false true q r = omega arith
    go false false q r = omega arith

count_all : (k : ℕ) (u v : Modes) → ((p : ℕ) → p < k → not (u p) || v p ≡ true) → count k v ≤ count k u → (p : ℕ) → p < k → u p ≡ v p
unfolding count
count_all zero u v h m p l = absurd (not-suc-le-zero l)
count_all (suc j) u v h m p l =
    go (u j) (v j) refl refl (h j (lt-suc_self j)) m (count_part j u v (λ p l. h p (omega arith))) (λ q. count_all j u v (λ p l. h p (omega arith)) q p)
    (eq-or-lt_of_le (le_of_suc-le-suc l))
  where
    go : (a b : Bool) → u j ≡ a → v j ≡ b → not a || b ≡ true → count j v + cond b 1 0 ≤ count j u + cond a 1 0 → count j u ≤ count j v
        → (count j v ≤ count j u → p < j → u p ≡ v p) → (p ≡ j) ⊎ (p < j) → u p ≡ v p
    go true true x y q r s rec (inl e) = ap u e ∙ x ∙ sym (ap v e ∙ y)
    go true true x y q r s rec (inr i) = rec (omega arith) i
    go true false x y q r s rec d = absurd (true≢false (sym q))
    go false true x y q r s rec d = absurd (omega arith)
    go false false x y q r s rec (inl e) = ap u e ∙ x ∙ sym (ap v e ∙ y)
    go false false x y q r s rec (inr i) = rec (omega arith) i

-- ---- the element that takes the ket A to the bra C

-- both words are of 64 bits
abbrev pub Wide : Term → Type 0
Wide t = (t.cre < 2 ^ 64) × (t.ann < 2 ^ 64)

module _ (C A : ℕ) (hA : A < 2 ^ 64) where
  -- a term that acts on A annihilates a part of A
  within : (c a : ℕ) → acts c a A ≡ true → (p : ℕ) → p < 64 → not (bit a p) || bit A p ≡ true
  within c a e p l = and_l _ _ (each_at 64 _ (sym (acts_is c a A) ∙ e) p l)

  whole : (c a : ℕ) → a < 2 ^ 64 → acts c a A ≡ true → count 64 (bit A) ≤ count 64 (bit a) → a ≡ A
  whole c a ha e m = ext a A (λ p. at p (lt_or_ge p 64))
    where
      at : (p : ℕ) → (p < 64) ⊎ (64 ≤ p) → bit a p ≡ bit A p
      at p (inl l) = count_all 64 (bit a) (bit A) (within c a e) m p l
      at p (inr l) = bit_above 64 a p ha l ∙ sym (bit_above 64 A p hA l)

  own_word : (c : ℕ) → bit_xor (bit_xor A A) c ≡ c
  own_word c = ap (λ (x : ℕ). bit_xor x c) (xor_self A) ∙ xor_zero_l c

  own_acts : acts C A A ≡ true
  own_acts = acts_is C A A ∙ each_all 64 _ (λ p l. go (bit C p) (bit A p))
    where
      go : (c a : Bool) → fit c a a ≡ true
      go true true = rw (⊕_self true)
      go true false = rw (⊕_false false)
      go false true = refl
      go false false = refl

  own : Bool
  own = sign_of C A A

  -- what the term {c|a} would add
  abbrev would : ℤ → ℕ → ℕ → ℤ
  would z c a = adds C z (cond (acts c a A) (went (bit_xor (bit_xor A a) c) (false ⊕ sign_of c a A)) gone)

  would_own : (z : ℤ) → would z C A ≡ signed own z
  unfolding own
  would_own z = rw (own_acts, own_word C, eq-eqb C C refl, false_⊕ (sign_of C A A))

  would_none : (z : ℤ) (c a : ℕ) → a < 2 ^ 64 → count 64 (bit A) ≤ count 64 (bit a) → eqb a A && eqb c C ≡ false → (x y : Bool) → acts c a A ≡ x
      → eqb (bit_xor (bit_xor A a) c) C ≡ y → would z c a ≡ pos 0
  would_none z c a ha m n true true p q =
      let e : a ≡ A = whole c a ha p m in
      let f : c ≡ C = sym (own_word c) ∙ ap (λ (x : ℕ). bit_xor (bit_xor A x) c) (sym e) ∙ eqb-true _ _ q in
      absurd (true≢false (sym (ap₂ (λ (x y : Bool). x && y) (eq-eqb a A e) (eq-eqb c C f)) ∙ n))
  would_none z c a ha m n true false p q = rw (p, q)
  would_none z c a ha m n false y p q = rw p

  -- a term with as many annihilations as A, or more, takes A to C only if it is {C|A}
  other : (t : Term) → Wide t → count 64 (bit A) ≤ annihilations t → part C A t ≡ signed own (coeff_in C A t)
  other t h m =
      ap (adds C t.coeff) (term_is t.cre t.ann A false h.0 h.1) ∙ go (eqb t.ann A && eqb t.cre C) refl
    where
      go : (k : Bool) → eqb t.ann A && eqb t.cre C ≡ k → would t.coeff t.cre t.ann ≡ signed own (cond k t.coeff (pos 0))
      go true n =
          ap₂ (would t.coeff) (eqb-true t.cre C (and_r (eqb t.ann A) (eqb t.cre C) n)) (eqb-true t.ann A (and_l (eqb t.ann A) (eqb t.cre C) n))
          ∙ would_own t.coeff
      go false n = would_none t.coeff t.cre t.ann h.1 m n _ _ refl refl ∙ sym (signed_zero own)

  -- what the terms with fewer annihilations add, and the coefficient of {C|A}
  element_is : (ts : List Term) → Every Wide ts → element C A ts ≡ element C A (fewer (count 64 (bit A)) ts) +ℤ signed own (coeff_of C A ts)
  unfolding sum_of fewer
  element_is [] none = sym (+ℤ_idl _) ∙ ap (λ (x : ℤ). pos 0 +ℤ x) (sym (signed_zero own))
  element_is (t ∷ ts) (more h hs) = go (element_is ts hs) (ltb (annihilations t) (count 64 (bit A))) refl
    where
      go : element C A ts ≡ element C A (fewer (count 64 (bit A)) ts) +ℤ signed own (coeff_of C A ts) → (b : Bool) → ltb (annihilations t) (count 64 (bit A)) ≡ b
          → part C A t +ℤ element C A ts
          ≡ element C A (cond b (t ∷ fewer (count 64 (bit A)) ts) (fewer (count 64 (bit A)) ts)) +ℤ signed own (coeff_in C A t +ℤ coeff_of C A ts)
      go ih true q =
          ap (λ (x : ℤ). part C A t +ℤ x) ih ∙ sym (+ℤ_assoc (part C A t) (element C A (fewer (count 64 (bit A)) ts)) (signed own (coeff_of C A ts)))
          ∙ ap (λ (x : ℤ). (part C A t +ℤ element C A (fewer (count 64 (bit A)) ts)) +ℤ signed own x)
          (sym (+ℤ_idl (coeff_of C A ts)) ∙ ap (λ (b : Bool). cond (b && eqb t.cre C) t.coeff (pos 0) +ℤ coeff_of C A ts) (sym differs))
        where
          differs : eqb t.ann A ≡ false
          differs =
              ne_eqb t.ann A (λ e.
              lt_irrefl (count 64 (bit A)) (subst (λ (x : ℕ). count 64 (bit x) < count 64 (bit A)) e (ltb-true (annihilations t) (count 64 (bit A)) q)))
      go ih false q =
          ap₂ (λ (x y : ℤ). x +ℤ y) (other t h (ltb-false (annihilations t) (count 64 (bit A)) q)) ih
          ∙ exchange (signed own (coeff_in C A t)) (element C A (fewer (count 64 (bit A)) ts)) (signed own (coeff_of C A ts))
          ∙ ap (λ (x : ℤ). element C A (fewer (count 64 (bit A)) ts) +ℤ x) (sym (signed_add own (coeff_in C A t) (coeff_of C A ts)))

  -- two operators that agree on the terms with fewer annihilations, and have one element here, have one coefficient here
  pub same_here : (ts us : List Term) → Every Wide ts → Every Wide us → fewer (count 64 (bit A)) ts ≡ fewer (count 64 (bit A)) us → element C A ts ≡ element C A us
      → coeff_of C A ts ≡ coeff_of C A us
  same_here ts us ht hu f e =
      unsign own (coeff_of C A ts) (coeff_of C A us)
      (cancel (element C A (fewer (count 64 (bit A)) ts)) (signed own (coeff_of C A ts)) (signed own (coeff_of C A us))
      (sym (element_is ts ht) ∙ e ∙ element_is us hu ∙ ap (λ (k : List Term). element C A k +ℤ signed own (coeff_of C A us)) (sym f)))
