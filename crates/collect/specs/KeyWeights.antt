-- The weight of one pair of words: the sum of the magnitudes of the terms that have them. It bounds what these terms make on the way to their sum. For inner functions only.
use Rattle.std.specs.Prelude.{List, ℕ, ◌<◌, ◌^◌, nat_abs}
use Rattle.modes.specs.Sums.{sum_by, amount_of}
use Rattle.modes.specs.declared.Term.{Term}
use Rattle.record.specs.Coefficients.{coeff_in}

unfoldable pub key_weight : ℕ → ℕ → List Term → ℕ
unfolding sum_by
key_weight cre ann ts = amount_of (λ t. nat_abs (coeff_in cre ann t)) ts

-- like terms can be joined in 64 bits
abbrev pub Light : List Term → Type 0
Light ts = (cre ann : ℕ) → key_weight cre ann ts < 2 ^ 63
