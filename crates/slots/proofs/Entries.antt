-- An entry is free exactly if its 32 bytes are zero.
use mathlib.Core.Path.{◌≡◌, refl, ap, ◌∙◌}
use mathlib.Core.Bool.{true}
use mathlib.Core.List.{List, [], ◌∷◌}
use Prim.Native.Nat.{ℕ, ◌*◌, ◌<◌}
use native.Mathlib.Omega.{arith}
use lib.ListN.{length, take, drop, length-drop}
use lib.Seq.{length-take-le}
use borrow.Author.Tests.{eqb-true, eq-eqb}
use Rattle.lent.specs.Bytes.{num, num_at, zeros}
use Rattle.slots.specs.Half.{is_free}
use Rattle.slots.proofs.Parts.{num_zeros}

-- bytes that make the number 0 are zeros
all_zero : (l : List ℕ) → num l ≡ 0 → l ≡ zeros (length l)
unfolding num
all_zero [] e = refl
all_zero (b ∷ bs) e =
    let first : b ≡ 0 = omega arith in
    let rest : num bs ≡ 0 = omega arith in
    rw first (ap (λ (l : List ℕ). 0 ∷ l) (all_zero bs rest))

module _ (h : List ℕ) (i : ℕ) (size : length h ≡ 32768) (slot : i < 16) where
  there : length (take 32 (drop (32 * i) h)) ≡ 32
  there = length-take-le 32 (drop (32 * i) h) (rw length-drop (omega arith))

  pub free_bytes : is_free h i ≡ true → take 32 (drop (32 * i) h) ≡ zeros 32
  unfolding num_at
  free_bytes e = all_zero (take 32 (drop (32 * i) h)) (eqb-true _ _ e) ∙ ap zeros there

  pub bytes_free : take 32 (drop (32 * i) h) ≡ zeros 32 → is_free h i ≡ true
  unfolding num_at
  bytes_free e = eq-eqb _ _ (ap num e ∙ num_zeros 32 32 0)
