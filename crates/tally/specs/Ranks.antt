-- The terms of one rank.
use Rattle.std.specs.Prelude.{ℕ, Bool, cond, List, [], ◌∷◌, nat_eq}
use Rattle.modes.specs.declared.Term.{Term}
use Rattle.figures.specs.Figures.{rank_of}

-- the entries of a list that p holds of
unfoldable pub chosen : {A : Type 0} → (A → Bool) → List A → List A
chosen p [] = []
chosen p (x ∷ l) = cond (p x) (x ∷ chosen p l) (chosen p l)

abbrev pub of_rank : ℕ → List Term → List Term
of_rank r = chosen (λ t. nat_eq (rank_of t) r)
