-- The walk over the branching modes that are left, lowest first: the rows that it writes from a row that keeps none of them. For inner functions only.
use Rattle.std.specs.Prelude.{◌≡◌, true, List, [], ◌∷◌, ◌++◌, ℕ, zero, suc, ◌-◌, ◌^◌, ◌<◌}
use Rattle.std.specs.Int.Bits.{bit_and, bit_or}
use Rattle.modes.specs.Bools.{◌⊕◌}
use Rattle.modes.specs.Words.{bit}
use Rattle.modes.specs.Counts.{odd_exchanges}
use Rattle.modes.specs.declared.Term.{Term}
use Rattle.products.specs.Operators.{signed}

-- the word holds one mode
pub record One (w : ℕ) : Type 0 where
  pub at : ℕ
  pub small : at < 64
  pub is : w ≡ 2 ^ at

-- the row that keeps one mode more: a flip for the exchange of its two ladders, one for each creation after it, and one for each annihilation before it
abbrev pub keeping : ℕ → Term → Term
keeping w t = record {
  cre = bit_or t.cre w;
  ann = bit_or t.ann w;
  coeff = signed (true ⊕ (odd_exchanges 64 (bit w) (bit t.cre) ⊕ odd_exchanges 64 (bit t.ann) (bit w))) t.coeff;
}

-- n modes are left: low rank, without the lowest of them, before high rank, with it
unfoldable pub walk : ℕ → ℕ → Term → List Term
walk zero left t = t ∷ []
walk (suc n) left t = walk n (bit_and left (left - 1)) t ++ walk n (bit_and left (left - 1)) (keeping (left - bit_and left (left - 1)) t)
