-- Whether a word stands among those of a list is what std's `contains` answers.
use mathlib.Core.Path.{◌≡◌, refl, ap}
use mathlib.Core.Bool.{◌||◌}
use mathlib.Core.List.{List, [], ◌∷◌}
use Prim.Native.Nat.{ℕ}
use lib.Dec.{eqb}
use Rattle.std.specs.List.{list_any}
use Rattle.mat_elem.specs.Matrix.{stands}

pub contains_is : (w : ℕ) (ws : List ℕ) → list_any (λ x. eqb x w) ws ≡ stands w ws
unfolding stands
contains_is w [] = refl
contains_is w (x ∷ ws) = ap (λ b. eqb x w || b) (contains_is w ws)
