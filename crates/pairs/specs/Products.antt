-- The rows of all pairs of terms of two operators, and their number, for the product and for the commutator and anticommutator.
use Rattle.std.specs.Prelude.{Bool, false, Option, Some, None, cond, List, [], ◌++◌, ℕ, ◌+◌, ◌^◌, ℤ, ◌*ℤ◌}
use Rattle.modes.specs.Counts.{count}
use Rattle.modes.specs.Sums.{sum_of, amount_of, list_of}
use Rattle.modes.specs.declared.Sign.{Sign}
use Rattle.modes.specs.declared.Term.{Term}
use Rattle.products.specs.PhaseRule.{went, term}
use Rattle.products.specs.Operators.{signed, adds}
use Rattle.products.specs.Product.{not_empty, branching, rows_times}

-- is the sign of the other order minus? Where there is none, that order does not count, whatever this says
abbrev pub minus_of : Option Sign → Bool
minus_of None = false
minus_of (Some s) = s.0

-- one pair of terms: t u and, where both orders count, u t with its sign
unfoldable pub pair_rows : Bool → Bool → Term → Term → List Term
pair_rows both minus t u =
    let z = t.coeff *ℤ u.coeff in
    let swapped = rows_times u.cre u.ann t.cre t.ann (signed minus z) in
    rows_times t.cre t.ann u.cre u.ann z ++ cond both swapped []

-- one term of the first operator with every term of the second
abbrev pub rows_with : Bool → Bool → Term → List Term → List Term
rows_with both minus t us = list_of (pair_rows both minus t) us

abbrev pub all_rows : Bool → Bool → List Term → List Term → List Term
all_rows both minus ts us = list_of (λ t. rows_with both minus t us) ts

-- the branches of the product t u: 2^b, or none where it is empty
abbrev pub branches_of : Term → Term → ℕ
branches_of t u = cond (not_empty t.cre t.ann u.cre u.ann) (2 ^ count 64 (branching t.cre t.ann u.cre u.ann)) 0

-- of one term with every term of an operator, and of all pairs of terms of two operators
abbrev pub branches_with : Term → List Term → ℕ
branches_with t us = amount_of (branches_of t) us

abbrev pub branches_of_all : List Term → List Term → ℕ
branches_of_all ts us = amount_of (λ t. branches_with t us) ts

-- over both orders where both count
unfoldable pub all_branches : Bool → List Term → List Term → ℕ
all_branches both ts us = let swapped = branches_of_all us ts in branches_of_all ts us + cond both swapped 0

-- what u and then t give at (bra, ket), ladder by ladder
abbrev pub pair_in_succession : ℕ → ℕ → Term → Term → ℤ
pair_in_succession bra ket t u = adds bra (t.coeff *ℤ u.coeff) (term t.cre t.ann (term u.cre u.ann (went ket false)))

-- what one operator, us, and then another, ts, give: the sum over their terms
abbrev pub in_succession : ℕ → ℕ → List Term → List Term → ℤ
in_succession bra ket ts us = sum_of (λ t. sum_of (pair_in_succession bra ket t) us) ts
