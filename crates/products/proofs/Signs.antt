-- Signs of numbers; and the sign of one term after another, by bilinearity.
use mathlib.Core.Path.{◌≡◌, refl, sym, ap, ◌∙◌}
use mathlib.Core.Bool.{Bool, true, false, cond}
use Prim.Native.Nat.{ℕ, zero, suc}
use lib.Dec.{eqb}
use lib.IntN.{ℤ, pos, negsuc, nat_abs, ◌+ℤ◌, neg_ℤ-neg_ℤ, neg_ℤ-+ℤ}
use Rattle.products.specs.PhaseRule.{Outcome, gone, went}
use Rattle.modes.specs.Bools.{◌⊕◌}
use Rattle.modes.specs.Words.{Modes, ◌△◌}
use Rattle.modes.specs.Counts.{odd_exchanges}
use Rattle.modes.proofs.Bools.{parity_sum}
use Rattle.modes.proofs.Sets.{odd_exchanges_△_l, odd_exchanges_△_r}
use Rattle.products.specs.Operators.{signed, adds}

pub signed_zero : (s : Bool) → signed s (pos 0) ≡ pos 0
signed_zero true = refl
signed_zero false = refl

pub signed_add : (s : Bool) (x y : ℤ) → signed s (x +ℤ y) ≡ signed s x +ℤ signed s y
signed_add true x y = neg_ℤ-+ℤ x y
signed_add false x y = refl

-- a sign does not change how far a number is from zero
pub abs_signed : (s : Bool) (z : ℤ) → nat_abs (signed s z) ≡ nat_abs z
abs_signed true (pos zero) = refl
abs_signed true (pos (suc n)) = refl
abs_signed true (negsuc n) = refl
abs_signed false z = refl

pub signed_signed : (s t : Bool) (z : ℤ) → signed s (signed t z) ≡ signed (s ⊕ t) z
unfolding ◌⊕◌
signed_signed true true z = neg_ℤ-neg_ℤ z
signed_signed true false z = refl
signed_signed false t z = refl

-- a sign goes through what a coefficient adds
signed_swap : (s r : Bool) (z : ℤ) → signed s (signed r z) ≡ signed r (signed s z)
signed_swap true true z = refl
signed_swap true false z = refl
signed_swap false r z = refl

pub where_signed : (b s : Bool) (z : ℤ) → cond b (signed s z) (pos 0) ≡ signed s (cond b z (pos 0))
where_signed true s z = refl
where_signed false s z = sym (signed_zero s)

pub adds_signed : (bra : ℕ) (minus : Bool) (z : ℤ) (o : Outcome) → adds bra (signed minus z) o ≡ signed minus (adds bra z o)
adds_signed bra minus z gone = sym (signed_zero minus)
adds_signed bra minus z (went w s) =
    ap (λ (x : ℤ). cond (eqb w bra) x (pos 0)) (signed_swap s minus z) ∙ where_signed (eqb w bra) minus (signed s z)

-- the sign that a product has before its row is put in order
abbrev pub joined : ℕ → Modes → Modes → Modes → Modes → Bool
joined n lc la rc ra = odd_exchanges n ra rc ⊕ (odd_exchanges n (ra △ rc) la ⊕ odd_exchanges n ((ra △ rc) △ la) lc)

pub two_signs : (n : ℕ) (k lc la rc ra : Modes)
    → (odd_exchanges n k ra ⊕ odd_exchanges n (k △ ra) rc) ⊕ (odd_exchanges n ((k △ ra) △ rc) la ⊕ odd_exchanges n (((k △ ra) △ rc) △ la) lc)
    ≡ joined n lc la rc ra ⊕ odd_exchanges n k (((ra △ rc) △ la) △ lc)
two_signs n k lc la rc ra = simp (odd_exchanges_△_l, odd_exchanges_△_r, parity_sum)

-- a row's coefficient with the row's own sign: the odd count o of modes that it keeps is all that tells two rows apart
pub row_sign : (n : ℕ) (o x : Bool) (k a c : Modes)
    → ((o ⊕ x) ⊕ odd_exchanges n a c) ⊕ (odd_exchanges n k a ⊕ odd_exchanges n (k △ a) c) ≡ o ⊕ (x ⊕ odd_exchanges n k (a △ c))
row_sign n o x k a c = simp (odd_exchanges_△_l, odd_exchanges_△_r, parity_sum)

-- a row that keeps the modes d too
pub more_sign : (n : ℕ) (a c d : Modes) → odd_exchanges n d d ≡ false
    → odd_exchanges n (a △ d) (c △ d) ≡ odd_exchanges n a c ⊕ (odd_exchanges n d c ⊕ odd_exchanges n a d)
more_sign n a c d e = simp (odd_exchanges_△_l, odd_exchanges_△_r, e, parity_sum)
