-- A term as a line of the grammar: its coefficient and its ladders, creations before annihilations, each ascending.
use Rattle.std.specs.Prelude.{Bool, cond, List, [], ◌∷◌, ◌++◌, ℕ, zero, suc}
use Rattle.modes.specs.Words.{bit}
use Rattle.modes.specs.declared.Term.{Term}
use Rattle.products.specs.PhaseRule.{creating, annihilating}
use Rattle.lines.specs.Grammar.{Ladder, Line}

-- the ladders of a word's modes below k, with what each needs of its mode
unfoldable pub modes_ladders : Bool → ℕ → ℕ → List Ladder
modes_ladders needs zero w = []
modes_ladders needs (suc p) w = let lower = modes_ladders needs p w in lower ++ cond (bit w p) (record { needs = needs; mode = p } ∷ []) []

abbrev pub line_of_term : Term → Line
line_of_term t = record { coeff = t.coeff; ladders = modes_ladders creating 64 t.cre ++ modes_ladders annihilating 64 t.ann }
