-- The pairs of a word's modes, from the machine's count.
use mathlib.Core.Path.{◌≡◌, sym, ap, ◌∙◌}
use Prim.Native.Nat.{ℕ, ◌-◌, ◌*◌, ◌/◌, ◌^◌, ◌≤◌, ◌<◌, zero-le}
use native.Mathlib.Omega.{arith}
use native.Mathlib.Nat.{mul-le-mul}
use lib.Count.{ones}
use Rattle.modes.specs.Words.{bit}
use Rattle.modes.specs.Counts.{count, pairs}
use Rattle.modes.proofs.Counts.{ones_word, count_le}

module _ (w : ℕ) (h : w < 2 ^ 64) where
  pub product_small : ones w * (ones w - 1) ≤ 4096
  product_small =
      let l : ones w ≤ 64 = omega (arith, ones_word w h, count_le 64 (bit w)) in
      mul-le-mul {n₁ = ones w} {m₁ = ones w - 1} {n₂ = 64} {m₂ = 64} l (omega arith)

  pub pairs_found : (ones w * (ones w - 1) / 2 ≡ pairs (count 64 (bit w))) × (ones w * (ones w - 1) / 2 ≤ 2048)
  unfolding pairs
  pairs_found = (ap (λ (n : ℕ). n * (n - 1) / 2) (ones_word w h), omega (arith, product_small))

  pub pairs_none : ones w ≡ 0 → (0 ≡ pairs (count 64 (bit w))) × (0 ≤ 2048)
  unfolding pairs
  pairs_none e = (ap (λ (n : ℕ). n * (n - 1) / 2) (sym e ∙ ones_word w h), zero-le)
