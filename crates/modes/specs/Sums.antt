-- Sums over a list: of whole numbers, of natural numbers, and of lists, which are put one after the other.
use Rattle.std.specs.Prelude.{List, [], ◌∷◌, ◌++◌, ℕ, ◌+◌, ℤ, pos, ◌+ℤ◌}

-- what f makes of each entry, summed by the operation op, which has the unit e
unfoldable pub sum_by : {A B : Type 0} → (B → B → B) → B → (A → B) → List A → B
sum_by op e f [] = e
sum_by op e f (x ∷ l) = op (f x) (sum_by op e f l)

-- the sum of a whole number
unfoldable pub sum_of : {A : Type 0} → (A → ℤ) → List A → ℤ
unfolding sum_by
sum_of f l = sum_by ◌+ℤ◌ (pos 0) f l

-- the sum of a natural number
abbrev pub amount_of : {A : Type 0} → (A → ℕ) → List A → ℕ
amount_of f l = sum_by ◌+◌ 0 f l

-- the lists of all entries, one after the other
abbrev pub list_of : {A B : Type 0} → (A → List B) → List A → List B
list_of f l = sum_by ◌++◌ [] f l
