-- What is told of an answer by cases is what the C face's definitions say of it.
use mathlib.Core.Path.{◌≡◌, ap, ◌∙◌}
use mathlib.Core.List.{List, [], ◌∷◌}
use Prim.Native.Nat.{ℕ}
use lib.IntN.{ℤ, pos}
use lib.Ieee.{Float}
use lib.ListN.{replicate}
use Rattle.std.specs.Prelude.{Result, Ok, Err, MatchResult}
use Rattle.modes.specs.declared.Refusal.{Refusal}
use Rattle.float_elem.specs.Sums.{plus_zero}
use Rattle.float_elem.specs.Answers.{Told, told_by}
use Rattle.mat_elem.specs.declared.Row.{Row}
use Rattle.fermion.specs.Face.{answered, own, float_values, float_answer, FillsFloat, in_rows, entries_in, FillsMatrix}

-- the floats and the numbers of an element x, whose values are told
module _ {A : Type 0} (values : A → List Float) where
  floats_of : (x : Result A Refusal) (value : List Float)
      → MatchResult x (λ z. value ≡ float_values (Ok (values z))) (λ _. value ≡ plus_zero ∷ plus_zero ∷ []) → value ≡ float_values (told_by values x)
  floats_of (Ok z) value h = h
  floats_of (Err r) value h = h

  numbers_of : (x : Result A Refusal) → answered (λ _. own 0 0 0) x ≡ float_answer (told_by values x)
  numbers_of (Ok z) i = float_answer (Ok (values z))
  numbers_of (Err r) i = float_answer (Err r)

  pub fills_float : (x : Result A Refusal) (t : Told) → told_by values x ≡ t → (value : List Float) (answer : List ℕ)
      → MatchResult x (λ z. value ≡ float_values (Ok (values z))) (λ _. value ≡ plus_zero ∷ plus_zero ∷ []) → answer ≡ answered (λ _. own 0 0 0) x → FillsFloat t value answer
  fills_float x t e value answer h g = record { floats = floats_of x value h ∙ ap float_values e; numbers = g ∙ numbers_of x ∙ ap float_answer e }

-- the entries and the numbers of a matrix
entries_of : (p : Result (List Row) Refusal) (matrix : List ℤ) → MatchResult p (λ rows. matrix ≡ in_rows rows) (λ _. matrix ≡ replicate 64 (pos 0))
    → matrix ≡ entries_in p
entries_of (Ok rows) matrix h = h
entries_of (Err r) matrix h = h

pub fills_matrix : (p q : Result (List Row) Refusal) → p ≡ q → (matrix : List ℤ) (answer : List ℕ)
    → MatchResult p (λ rows. matrix ≡ in_rows rows) (λ _. matrix ≡ replicate 64 (pos 0)) → answer ≡ answered (λ _. own 0 0 0) p → FillsMatrix q matrix answer
fills_matrix p q e matrix answer h g = record { entries = entries_of p matrix h ∙ ap entries_in e; numbers = g ∙ ap (answered (λ _. own 0 0 0)) e }
