-- Numbers of one width, w bytes each, one after the other.
use Rattle.std.specs.Prelude.{ℕ, zero, suc, ◌+◌, Bool, true, false, ◌&&◌, List, [], ◌∷◌, ◌++◌, eqb}
use Rattle.lent.specs.Bytes.{bytes, num_at}

-- the bytes of numbers
unfoldable pub stored : ℕ → List ℕ → List ℕ
stored w [] = []
stored w (x ∷ xs) = bytes w x ++ stored w xs

-- the k numbers that stand from byte o on
unfoldable pub numbers : ℕ → List ℕ → ℕ → ℕ → List ℕ
numbers w l o zero = []
numbers w l o (suc k) = num_at w l o ∷ numbers w l (o + w) k

-- are these the same numbers
unfoldable pub same_numbers : List ℕ → List ℕ → Bool
same_numbers [] [] = true
same_numbers [] (y ∷ ys) = false
same_numbers (x ∷ xs) [] = false
same_numbers (x ∷ xs) (y ∷ ys) = eqb x y && same_numbers xs ys
