-- Two numbers are equal or not, and one of two different ones is below the other.
use mathlib.Core.Path.{◌≡◌, refl}
use mathlib.Core.Bool.{Bool, true, false}
use mathlib.Core.Logic.{◌⊎◌, inl, inr}
use Prim.Native.Nat.{ℕ, ◌≤◌, ◌<◌}
use native.Mathlib.Omega.{arith}
use borrow.Author.Tests.{eqb-true, eqb-false}
use lib.Dec.{eqb}
use Rattle.modes.proofs.Digits.{lt_or_ge}

pub same_or : (a b : ℕ) → (a ≡ b) ⊎ (a ≡ b → ⊥)
same_or a b = go (eqb a b) refl
  where
    go : (t : Bool) → eqb a b ≡ t → (a ≡ b) ⊎ (a ≡ b → ⊥)
    go true e = inl (eqb-true a b e)
    go false e = inr (eqb-false a b e)

pub apart_or : (a b : ℕ) → (a ≡ b → ⊥) → (a < b) ⊎ (b < a)
apart_or a b n = go (lt_or_ge a b) (lt_or_ge b a)
  where
    go : (a < b) ⊎ (b ≤ a) → (b < a) ⊎ (a ≤ b) → (a < b) ⊎ (b < a)
    go (inl h) k = inl h
    go (inr h) (inl k) = inr k
    go (inr h) (inr k) = absurd (n (omega arith))
