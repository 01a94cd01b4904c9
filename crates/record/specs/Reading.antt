-- What is read of a record is a term of its list, whatever the layout. For inner functions only.
use Rattle.std.specs.Prelude.{ℕ, ◌+◌, ◌^◌, ◌≤◌, ◌≡◌, List, ◌∷◌, length, drop}
use Rattle.modes.specs.declared.Term.{Term}
use Rattle.record.specs.Terms.{weight}
use Rattle.record.specs.Layout.{record_length, terms_in}

-- l is long enough for n terms: they can be read from it, or written to it
abbrev pub Holds : List ℕ → ℕ → Type 0
Holds l n = record_length n ≤ length l

-- n terms can be read from l, and their weight is not above the ceiling
pub record Sound (l : List ℕ) (n : ℕ) : Type 0 where
  pub size : Holds l n
  pub light : weight (terms_in l n) ≤ 2 ^ 60

-- t is the i-th of the terms
abbrev pub At : List Term → ℕ → Term → Type 0
At ts i t = drop i ts ≡ t ∷ drop (i + 1) ts
