-- Hermitian: the adjoint's bytes equal the record's. Found term by term: each one's adjoint is among the terms.
use Rattle.std.specs.Prelude.{◌≡◌, Result, Bool, true, false, List, [], ◌∷◌, ◌⊎◌, ℕ}
use Rattle.modes.specs.declared.Term.{Term}
use Rattle.modes.specs.Every.{Every}
use Rattle.record.specs.Numbers.{same_numbers}
use Rattle.modes.specs.declared.Refusal.{Refusal}
use Rattle.modes.specs.Refusals.{answered}
use Rattle.record.specs.Refusals.{refusal_of}
use Rattle.adjoint.specs.Adjoint.{adjoint_term, adjoint_bytes}

-- what `is_hermitian` answers
abbrev pub hermitian_of : List ℕ → Result Bool Refusal
hermitian_of l = answered (refusal_of 1 l) (same_numbers (adjoint_bytes l) l)

-- t is one of the terms
abbrev pub Among : Term → List Term → Type 0
Among t [] = ⊥
Among t (u ∷ ts) = (u ≡ t) ⊎ Among t ts

-- the adjoint of every term of us is among ts
abbrev pub AdjointsAmong : List Term → List Term → Type 0
AdjointsAmong ts us = Every (λ u. Among (adjoint_term u) ts) us

-- b tells whether P holds
pub record Tells (b : Bool) (P : Type 0) : Type 0 where
  pub yes : b ≡ true → P
  pub no : b ≡ false → P → ⊥
