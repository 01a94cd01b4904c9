-- What holds of every entry of a list, and between each entry and every later one.
use Rattle.std.specs.Prelude.{List, [], ◌∷◌}

pub data Every {A : Type 0} (P : A → Type 0) : List A → Type 0 where
  none : Every P []
  more : {x : A} {l : List A} → P x → Every P l → Every P (x ∷ l)

pub data Pairwise {A : Type 0} (R : A → A → Type 0) : List A → Type 0 where
  nothing : Pairwise R []
  beside : {x : A} {l : List A} → Every (R x) l → Pairwise R l → Pairwise R (x ∷ l)
