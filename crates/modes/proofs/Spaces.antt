-- Words inside a space of m modes, and the refusal of a word outside it.
use mathlib.Core.Path.{◌≡◌}
use mathlib.Core.Bool.{true, ◌&&◌}
use mathlib.Core.Logic.{◌⊎◌, inl, inr}
use Prim.Native.Nat.{ℕ, ◌^◌, ◌≤◌, ◌<◌}
use native.Mathlib.Omega.{arith}
use lib.Dec.{ltb}
use lib.Bits.{bit_or, or_lt, or_add_and, and_le_l, and_le_r}
use borrow.Author.Tests.{lt-ltb, le-ltb}
use Rattle.modes.proofs.Refusals.{needed}
use Rattle.modes.specs.declared.Reason.TheVariants.{OccupationOutside}
use Rattle.modes.specs.Answers.{refusal, none}
use Rattle.modes.specs.Spaces.{inside, word_refusal}
use Rattle.modes.proofs.Digits.{lt_or_ge}

-- two words hold only modes below m exactly if their union does
pub inside_both : (m cre ann : ℕ) → ltb (bit_or ann cre) (2 ^ m) ≡ inside m cre ann
unfolding inside
inside_both m cre ann = go (lt_or_ge ann (2 ^ m)) (lt_or_ge cre (2 ^ m))
  where
    go : (ann < 2 ^ m) ⊎ (2 ^ m ≤ ann) → (cre < 2 ^ m) ⊎ (2 ^ m ≤ cre) → ltb (bit_or ann cre) (2 ^ m) ≡ ltb ann (2 ^ m) && ltb cre (2 ^ m)
    go (inl h) (inl k) = rw (lt-ltb _ _ h, lt-ltb _ _ k) (lt-ltb _ _ (or_lt m ann cre h k))
    go (inl h) (inr k) = rw (lt-ltb _ _ h, le-ltb _ _ k) (le-ltb (bit_or ann cre) (2 ^ m) (omega (arith, or_add_and ann cre, and_le_l ann cre)))
    go (inr h) k = rw (le-ltb _ _ h) (le-ltb (bit_or ann cre) (2 ^ m) (omega (arith, or_add_and ann cre, and_le_r ann cre)))

-- a word that is not refused is inside
pub word_inside : (m o p w : ℕ) → word_refusal m o p w ≡ none → ltb w (2 ^ m) ≡ true
word_inside m o p w z = needed (ltb w (2 ^ m)) (refusal OccupationOutside o p) z
