-- A word is a number, and the modes that it holds are its binary digits.
use Rattle.std.specs.Prelude.{Bool, true, cond, ◌&&◌, ℕ, zero, suc, ◌/◌, ◌%◌, ◌^◌, eqb}
use Rattle.modes.specs.Bools.{◌⊕◌}

-- a set of modes: which modes are in it
abbrev pub Modes : Type 0
Modes = ℕ → Bool

-- is mode p occupied in the word w
unfoldable pub bit : ℕ → Modes
bit w p = eqb (w / 2 ^ p % 2) 1

-- in one of the two sets, and not in both
infixl 40 ◌△◌
unfoldable pub ◌△◌ : Modes → Modes → Modes
(u △ v) p = u p ⊕ v p

-- f holds at every mode below k
unfoldable pub each : ℕ → (ℕ → Bool) → Bool
each zero f = true
each (suc p) f = each p f && f p

-- the lowest mode of u below k, or k where there is none
unfoldable pub lowest_mode : ℕ → Modes → ℕ
lowest_mode zero u = 0
lowest_mode (suc k) u = cond (u 0) 0 (suc (lowest_mode k (λ p. u (suc p))))
