-- Exactly one joining term, and what its coefficient comes out as.
use Rattle.std.specs.Prelude.{◌≡◌, Bool, false, List, ℕ, zero, suc, ◌<◌, T, get_or, Float}
use Rattle.std.specs.Float.{nan, inf, fin, binary64}
use Rattle.std.specs.Float.Ieee.{fits}
use Rattle.products.specs.PhaseRule.{went, term}
use Rattle.float_elem.specs.Sums.{plus_zero}

-- the number itself, a zero as plus zero
abbrev pub exactly : Float → Float
exactly nan = nan
exactly (inf s) = inf s
exactly (fin s zero e) = plus_zero
exactly (fin s (suc m) e) = fin s (suc m) e

-- every entry is a binary64
abbrev pub Doubles : List Float → Type 0
Doubles cs = (i : ℕ) → T (fits binary64 (get_or cs i nan))

-- of n terms the i-th takes ket to bra, with the sign s, and no other does
pub record OnlyJoins (bra ket : ℕ) (cre ann : List ℕ) (n i : ℕ) (s : Bool) : Type 0 where
  pub inside : i < n
  pub joins : term (get_or cre i 0) (get_or ann i 0) (went ket false) ≡ went bra s
  pub alone : (j : ℕ) → j < n → (j ≡ i → ⊥) → (t : Bool) → term (get_or cre j 0) (get_or ann j 0) (went ket false) ≡ went bra t → ⊥
