-- No two answers, and no two outputs, meet a promise of this crate.
use mathlib.Core.Path.{◌≡◌}
use mathlib.Core.List.{List}
use Prim.Native.Nat.{ℕ}
use Rattle.modes.specs.declared.Term.{Term}
use Rattle.modes.proofs.Unique.{one}
use Rattle.lent.specs.Rows.{Fit}
use Rattle.places.specs.declared.Places.{Places}
use Rattle.places.specs.Places.{row_places, term_in, put_in}

pub one_places : (at : ℕ) (r s : Places) → r ≡ row_places at → s ≡ row_places at → r ≡ s
one_places at r s = one

pub one_get : (l : List ℕ) (p : Places) (i : ℕ) (r s : Term) → (r ≡ term_in p l i) × Fit r → (s ≡ term_in p l i) × Fit s → r ≡ s
one_get l p i r s x y = one x.0 y.0

pub one_put : (l : List ℕ) (p : Places) (i : ℕ) (t : Term) (m k : List ℕ) → (m ≡ put_in p l i t) × Fit t → (k ≡ put_in p l i t) × Fit t → m ≡ k
one_put l p i t m k x y = one x.0 y.0
