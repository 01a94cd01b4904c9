-- Lists of terms, by index. For inner functions only.
use Rattle.std.specs.Prelude.{List, [], ◌∷◌, ◌++◌, ℕ, zero, suc, pos, get_or}
use Rattle.modes.specs.declared.Term.{Term}

-- the term at index k, and past the end a term of zeros
unfoldable pub at : List Term → ℕ → Term
at ts k = get_or ts k (record { cre = 0; ann = 0; coeff = pos 0 })

-- f at 0, at 1, and so on, n terms
unfoldable pub up_to : (ℕ → Term) → ℕ → List Term
up_to f zero = []
up_to f (suc n) = up_to f n ++ (f n ∷ [])
