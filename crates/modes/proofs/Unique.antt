-- No two answers meet a promise of this crate.
use mathlib.Core.Path.{◌≡◌, sym, ap, ◌∙◌}
use mathlib.Core.Bool.{Bool}
use Prim.Native.Nat.{ℕ, ◌^◌, ◌≤◌}
use lib.Dec.{ltb}
use Rattle.modes.specs.Bools.{◌⊕◌}
use Rattle.modes.specs.Words.{bit, lowest_mode}
use Rattle.modes.specs.Counts.{parity, count}
use Rattle.std.specs.Prelude.{Option}
use Rattle.modes.specs.Answers.{Verdict}
use Rattle.modes.specs.Reasons.{number_of}
use Rattle.modes.specs.Spaces.{space_of, inside, word_refusal, words_refusal}
use Rattle.modes.specs.declared.Sign.{Sign}
use Rattle.modes.specs.declared.ModeSpace.{ModeSpace}
use Rattle.modes.specs.declared.Reason.{Reason}

-- what equals one value is one
pub one : {A : Type 0} {x r s : A} → r ≡ x → s ≡ x → r ≡ s
one p q = p ∙ sym q

-- a sign is its Boolean
pub one_sign : (b : Bool) (r s : Sign) → r.0 ≡ b → s.0 ≡ b → r ≡ s
one_sign b r s p q = ap (λ (x : Bool). record { 0 = x }) (one p q)

pub one_from_exchanges : (n : ℕ) (r s : Sign) → r.0 ≡ parity n → s.0 ≡ parity n → r ≡ s
one_from_exchanges n = one_sign (parity n)

pub one_mul : (x y r s : Sign) → r.0 ≡ x.0 ⊕ y.0 → s.0 ≡ x.0 ⊕ y.0 → r ≡ s
one_mul x y = one_sign (x.0 ⊕ y.0)

pub one_space : (m : ℕ) (r s : Option ModeSpace) → r ≡ space_of m → s ≡ space_of m → r ≡ s
one_space m r s = one

pub one_contains : (m w : ℕ) (r s : Bool) → r ≡ ltb w (2 ^ m) → s ≡ ltb w (2 ^ m) → r ≡ s
one_contains m w r s = one

pub one_inside : (m cre ann : ℕ) (r s : Bool) → r ≡ inside m cre ann → s ≡ inside m cre ann → r ≡ s
one_inside m cre ann r s = one

pub one_number : (f : Reason) (r s : ℕ) → r ≡ number_of f → s ≡ number_of f → r ≡ s
one_number f r s = one

pub one_count : (w r s : ℕ) → (r ≡ count 64 (bit w)) × (r ≤ 64) → (s ≡ count 64 (bit w)) × (s ≤ 64) → r ≡ s
one_count w r s p q = one p.0 q.0

pub one_lowest : (w r s : ℕ) → r ≡ lowest_mode 64 (bit w) → s ≡ lowest_mode 64 (bit w) → r ≡ s
one_lowest w r s = one

pub one_word : (m o p w : ℕ) (r s : Verdict) → r ≡ word_refusal m o p w → s ≡ word_refusal m o p w → r ≡ s
one_word m o p w r s = one

pub one_words : (m bra ket : ℕ) (r s : Verdict) → r ≡ words_refusal m bra ket → s ≡ words_refusal m bra ket → r ≡ s
one_words m bra ket r s = one
