-- Where a term acts, the word that results and its sign, in closed form.
use mathlib.Core.Path.{◌≡◌, refl, sym, ap, ap₂, ◌∙◌}
use mathlib.Core.Bool.{Bool, true, false, not, cond, ◌&&◌, ◌||◌, and-true, and-false}
use mathlib.Core.Logic.{◌⊎◌, inl, inr, ⊎_elim}
use Prim.Native.Nat.{ℕ, zero, suc, ◌^◌, ◌≤◌, ◌<◌, zero-le}
use native.Mathlib.Nat.{le_refl, eq-or-lt_of_le}
use native.Mathlib.Omega.{arith}
use lib.Dec.{eqb, ltb}
use lib.Bits.{bit_xor}
use borrow.Author.Tests.{ne_eqb, lt-ltb, le-ltb, eq-eqb}
use Rattle.modes.specs.Bools.{◌⊕◌, same}
use Rattle.modes.specs.Words.{Modes, bit, each}
use Rattle.modes.specs.Counts.{odd, odd_exchanges}
use Rattle.modes.proofs.Bools.{⊕_false, ⊕_assoc, ⊕_comm}
use Rattle.modes.proofs.Sets.{odd_exchanges_△_l, odd_exchanges_none, each_cong, each_and}
use Rattle.modes.proofs.Digits.{lt_or_ge, bit_of_xor, bits_xor, bit_pow, bit_above, bit_none, ext}
use Rattle.products.specs.PhaseRule.{Outcome, gone, went, creating, annihilating, ladder, ladders, term}
use Rattle.products.specs.Product.{sign_of}

-- ---- the closed form

ladders_gone : (needs : Bool) (k at : ℕ) → ladders needs k at gone ≡ gone
unfolding ladders ladder
ladders_gone needs zero at = refl
ladders_gone needs (suc p) at = go (ladders_gone needs p at) (bit at p)
  where
    go : ladders needs p at gone ≡ gone → (b : Bool) → ladders needs p at (cond b gone gone) ≡ gone
    go ih true = ih
    go ih false = ih

-- a word without modes below k has no ladders below k
pub ladders_none : (needs : Bool) (k at : ℕ) (o : Outcome) → ((p : ℕ) → p < k → bit at p ≡ false) → ladders needs k at o ≡ o
unfolding ladders
ladders_none needs zero at o h = refl
ladders_none needs (suc p) at o h = rw (h p (le_refl (suc p))) (ladders_none needs p at o (λ q l. h q (omega arith)))

-- the word with the modes of `at` below k flipped
unfoldable flips : ℕ → ℕ → ℕ → ℕ
flips zero at w = w
flips (suc p) at w = flips p at (cond (bit at p) (bit_xor w (2 ^ p)) w)

-- each mode of `at` is in w where `needs` is true, and not where it is false
abbrev pub ready : Bool → ℕ → ℕ → ℕ → Bool
ready needs k at w = each k (λ p. not (bit at p) || same needs (bit w p))

-- flipping a mode p changes no mode below p
below : (w p i : ℕ) → i < p → bit (bit_xor w (2 ^ p)) i ≡ bit w i
below w p i l = bit_of_xor w (2 ^ p) i ∙ ap (λ (x : Bool). bit w i ⊕ x) (bit_pow p i ∙ ne_eqb i p (λ e. omega arith)) ∙ ⊕_false (bit w i)

odd_exchanges_below : (w at p : ℕ) → odd_exchanges p (bit (bit_xor w (2 ^ p))) (bit at) ≡ odd_exchanges p (bit w) (bit at)
odd_exchanges_below w at p =
    ap (λ (u : Modes). odd_exchanges p u (bit at)) (bits_xor w (2 ^ p)) ∙ odd_exchanges_△_l p (bit w) (bit (2 ^ p)) (bit at)
    ∙ ap (λ (x : Bool). odd_exchanges p (bit w) (bit at) ⊕ x) (odd_exchanges_none p (bit (2 ^ p)) (bit at) (λ i l. bit_pow p i ∙ ne_eqb i p (λ e. omega arith)))
    ∙ ⊕_false _

ready_below : (needs : Bool) (w at p : ℕ) → ready needs p at (bit_xor w (2 ^ p)) ≡ ready needs p at w
ready_below needs w at p = each_cong p _ _ (λ i l. ap (λ (x : Bool). not (bit at i) || same needs x) (below w p i l))

-- the highest mode p of k = p + 1: `b` is whether the term has it, `m` whether the word is ready for it
step : (needs : Bool) (p at : ℕ)
    → ((w : ℕ) (s : Bool) → ladders needs p at (went w s) ≡ cond (ready needs p at w) (went (flips p at w) (s ⊕ odd_exchanges p (bit w) (bit at))) gone)
    → (w : ℕ) (s b m : Bool)
    → ladders needs p at (cond b (cond m (went (bit_xor w (2 ^ p)) (s ⊕ odd p (bit w))) gone) (went w s))
    ≡ cond (ready needs p at w && (not b || m))
    (went (flips p at (cond b (bit_xor w (2 ^ p)) w)) (s ⊕ (odd_exchanges p (bit w) (bit at) ⊕ (b && odd p (bit w))))) gone
step needs p at ih w s true true =
    rw (
      ih (bit_xor w (2 ^ p)) (s ⊕ odd p (bit w)),
      ready_below needs w at p,
      odd_exchanges_below w at p,
      and-true (ready needs p at w),
      ⊕_assoc s (odd p (bit w))
          (odd_exchanges p (bit w) (bit at)),
      ⊕_comm (odd p (bit w)) (odd_exchanges p (bit w) (bit at)),
    )
step needs p at ih w s true false = rw (and-false (ready needs p at w)) (ladders_gone needs p at)
step needs p at ih w s false m =
    rw (ih w s, and-true (ready needs p at w), ⊕_false (odd_exchanges p (bit w) (bit at)))

ladders_is : (needs : Bool) (k at w : ℕ) (s : Bool)
    → ladders needs k at (went w s) ≡ cond (ready needs k at w) (went (flips k at w) (s ⊕ odd_exchanges k (bit w) (bit at))) gone
unfolding ladders each flips odd_exchanges ladder
ladders_is needs zero at w s = ap (went w) (sym (⊕_false s))
ladders_is needs (suc p) at w s = step needs p at (ladders_is needs p at) w s (bit at p) (same needs (bit w p))

-- ---- the word that results

three : (i p : ℕ) → (i < p) ⊎ ((i ≡ p) ⊎ (p < i))
three i p = go (lt_or_ge i p)
  where
    go : (i < p) ⊎ (p ≤ i) → (i < p) ⊎ ((i ≡ p) ⊎ (p < i))
    go (inl l) = inl l
    go (inr l) = inr (⊎_elim (λ e. inl (sym e)) inr (eq-or-lt_of_le l))

bit_cond : (b : Bool) (w p i : ℕ) → bit (cond b (bit_xor w (2 ^ p)) w) i ≡ bit w i ⊕ (b && eqb i p)
bit_cond true w p i = bit_of_xor w (2 ^ p) i ∙ ap (λ (x : Bool). bit w i ⊕ x) (bit_pow p i)
bit_cond false w p i = sym (⊕_false (bit w i))

one_more : (at p i : ℕ) → (bit at p && eqb i p) ⊕ (ltb i p && bit at i) ≡ ltb i (suc p) && bit at i
unfolding ◌⊕◌
one_more at p i = go (three i p)
  where
    go : (i < p) ⊎ ((i ≡ p) ⊎ (p < i)) → (bit at p && eqb i p) ⊕ (ltb i p && bit at i) ≡ ltb i (suc p) && bit at i
    go (inl l) = rw (ne_eqb i p (λ e. omega arith), lt-ltb i p l, lt-ltb i (suc p) (omega arith), and-false (bit at p))
    go (inr (inl e)) = rw (e, eq-eqb p p refl, le-ltb p p (le_refl p), lt-ltb p (suc p) (le_refl (suc p)), and-true (bit at p)) (⊕_false (bit at p))
    go (inr (inr l)) = rw (ne_eqb i p (λ e. omega arith), le-ltb i p (omega arith), le-ltb i (suc p) (omega arith), and-false (bit at p))

bit_flips : (k at w i : ℕ) → bit (flips k at w) i ≡ bit w i ⊕ (ltb i k && bit at i)
unfolding flips
bit_flips zero at w i = rw (le-ltb i 0 zero-le) (sym (⊕_false (bit w i)))
bit_flips (suc p) at w i =
    bit_flips p at (cond (bit at p) (bit_xor w (2 ^ p)) w) i ∙ ap (λ (x : Bool). x ⊕ (ltb i p && bit at i)) (bit_cond (bit at p) w p i)
    ∙ ⊕_assoc (bit w i) (bit at p && eqb i p) (ltb i p && bit at i) ∙ ap (λ (x : Bool). bit w i ⊕ x) (one_more at p i)

flips_is : (k at w : ℕ) → at < 2 ^ k → flips k at w ≡ bit_xor w at
flips_is k at w h = ext _ _ (λ i. bit_flips k at w i ∙ ap (λ (x : Bool). bit w i ⊕ x) (within i (lt_or_ge i k)) ∙ sym (bit_of_xor w at i))
  where
    within : (i : ℕ) → (i < k) ⊎ (k ≤ i) → ltb i k && bit at i ≡ bit at i
    within i (inl l) = rw (lt-ltb i k l)
    within i (inr l) = rw (le-ltb i k l) (sym (bit_above k at i h l))

-- a term acts where the word has every annihilated mode and, with those flipped, no created mode
abbrev pub acts : ℕ → ℕ → ℕ → Bool
acts cre ann w = ready true 64 ann w && ready false 64 cre (bit_xor w ann)

-- a term acts mode by mode: an annihilated mode is occupied, and a created one is empty once the annihilations are done
abbrev pub fit : Bool → Bool → Bool → Bool
fit c a k = (not a || k) && (not c || not (k ⊕ a))

pub acts_is : (cre ann w : ℕ) → acts cre ann w ≡ each 64 (λ p. fit (bit cre p) (bit ann p) (bit w p))
acts_is cre ann w =
    sym (each_and 64 (λ p. not (bit ann p) || bit w p) (λ p. not (bit cre p) || not (bit (bit_xor w ann) p)))
    ∙ each_cong 64 _ _ (λ p l. ap (λ (x : Bool). (not (bit ann p) || bit w p) && (not (bit cre p) || not x)) (bit_of_xor w ann p))

pub term_none : (o : Outcome) → term 0 0 o ≡ o
unfolding term
term_none o =
    ladders_none creating 64 0 (ladders annihilating 64 0 o) (λ p l. bit_none p) ∙ ladders_none annihilating 64 0 o (λ p l. bit_none p)

pub term_gone : (cre ann : ℕ) → term cre ann gone ≡ gone
unfolding term
term_gone cre ann = ap (ladders creating 64 cre) (ladders_gone annihilating 64 ann) ∙ ladders_gone creating 64 cre

pub term_is : (cre ann w : ℕ) (s : Bool) → cre < 2 ^ 64 → ann < 2 ^ 64
    → term cre ann (went w s) ≡ cond (acts cre ann w) (went (bit_xor (bit_xor w ann) cre) (s ⊕ sign_of cre ann w)) gone
unfolding term
term_is cre ann w s hc ha =
    ap (ladders false 64 cre) (ladders_is true 64 ann w s
    ∙ ap (λ (x : ℕ). cond (ready true 64 ann w) (went x (s ⊕ odd_exchanges 64 (bit w) (bit ann))) gone) (flips_is 64 ann w ha))
    ∙ go (ready true 64 ann w)
  where
    go : (b : Bool) → ladders false 64 cre (cond b (went (bit_xor w ann) (s ⊕ odd_exchanges 64 (bit w) (bit ann))) gone)
        ≡ cond (b && ready false 64 cre (bit_xor w ann)) (went (bit_xor (bit_xor w ann) cre) (s ⊕ sign_of cre ann w)) gone
    go true =
        ladders_is false 64 cre (bit_xor w ann) (s ⊕ odd_exchanges 64 (bit w) (bit ann))
        ∙ ap₂ (λ (x : ℕ) (y : Bool). cond (ready false 64 cre (bit_xor w ann)) (went x y) gone) (flips_is 64 cre (bit_xor w ann) hc) (⊕_assoc s _ _)
    go false = ladders_gone false 64 cre
