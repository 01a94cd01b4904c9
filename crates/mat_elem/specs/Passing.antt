-- Which terms a sum passes over. For inner functions only.
use Rattle.std.specs.Prelude.{Bool, cond, List, [], ◌∷◌, ℕ, suc, eqb}
use Rattle.std.specs.Int.Bits.{bit_xor}
use Rattle.modes.specs.declared.Term.{Term}

-- the term changes just the modes in which bra and ket differ
abbrev pub between : ℕ → ℕ → Term → Bool
between bra ket t = eqb (bit_xor t.cre t.ann) (bit_xor bra ket)

-- how many terms stand before the first such one
unfoldable pub passed : ℕ → ℕ → List Term → ℕ
passed bra ket [] = 0
passed bra ket (t ∷ ts) = cond (between bra ket t) 0 (suc (passed bra ket ts))
