-- What the check of the lists before the sum tells: their lengths.
use mathlib.Core.Path.{◌≡◌, sym, ◌∙◌}
use mathlib.Core.Bool.{Bool, true}
use mathlib.Core.List.{List, [], ◌∷◌}
use Prim.Native.Nat.{ℕ}
use lib.Dec.{eqb, leb}
use lib.ListN.{length}
use lib.Ieee.{Float}
use borrow.Author.Tests.{eqb-true}
use Rattle.modes.specs.Spaces.{space_of, is_made}
use Rattle.modes.proofs.Bools.{and_l, and_r}
use Rattle.float_elem.specs.Elements.{listed}
use Rattle.float_elem.specs.Lengths.{OneLength}

-- ---- the lists

module _ (m : ℕ) (cre ann : List ℕ) (re im : List Float) where
  pub lengths : (b : Bool) → b ≡ listed m cre ann (re ∷ im ∷ []) → b ≡ true → OneLength (length cre) ann re im
  unfolding listed
  lengths b e t =
      let few = and_r (is_made (space_of m)) _ (sym e ∙ t) in
      let anns = and_r (leb (length cre) 2048) _ few in
      let res = and_r (eqb (length ann) (length cre)) _ anns in
      let ims = and_r (eqb (length re) (length cre)) _ res in
      record {
        anns = eqb-true _ _ (and_l (eqb (length ann) (length cre)) _ anns);
        res = eqb-true _ _ (and_l (eqb (length re) (length cre)) _ res);
        ims = eqb-true _ _ (and_l (eqb (length im) (length cre)) _ ims);
      }
