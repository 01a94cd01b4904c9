-- Terms: their order and their weight.
use Rattle.std.specs.Prelude.{ℕ, ◌+◌, ◌≡◌, Option, Some, None, Bool, true, ◌&&◌, ◌||◌, List, [], ◌∷◌, eqb, ltb, nat_abs}
use Rattle.modes.specs.declared.Term.{Term}
use Rattle.modes.specs.Every.{Every}

-- t stands before u: by annihilations, then by creations
unfoldable pub before : Term → Term → Bool
before t u = ltb t.ann u.ann || (eqb t.ann u.ann && ltb t.cre u.cre)

-- may t stand after the last term, if there is one
abbrev pub follows : Option Term → Term → Bool
follows None t = true
follows (Some u) t = before u t

-- t stands before every term of ts
abbrev pub Above : Term → List Term → Type 0
Above t ts = Every (λ u. before t u ≡ true) ts

-- the terms strictly ascend
pub data Ascending : List Term → Type 0 where
  empty : Ascending []
  above : {t : Term} {ts : List Term} → Above t ts → Ascending ts → Ascending (t ∷ ts)

-- the exact sum of magnitudes
unfoldable pub weight : List Term → ℕ
weight [] = 0
weight (t ∷ ts) = nat_abs t.coeff + weight ts
