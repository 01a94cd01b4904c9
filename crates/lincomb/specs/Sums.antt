-- The sum of two operators, and their difference: all terms of both, like terms joined and zeros dropped.
use Rattle.std.specs.Prelude.{ℕ, Bool, true, false, List, ◌++◌, map}
use Rattle.modes.specs.declared.Term.{Term}
use Rattle.lent.specs.Outputs.{Output}
use Rattle.products.specs.Operators.{signed}
use Rattle.record.specs.Operands.{Operand}
use Rattle.normal.specs.Normal.{normal}
use Rattle.results.specs.Results.{operands_refusal, result_of}

-- the term, or its negative where the sign is minus
abbrev pub turn : Bool → Term → Term
turn minus t = record { cre = t.cre; ann = t.ann; coeff = signed minus t.coeff }

abbrev pub sum_terms : Bool → Operand → Operand → List Term
sum_terms minus a b = normal (a.terms ++ map (turn minus) b.terms)

-- for an output of room bytes
abbrev pub combined : Bool → ℕ → Operand → Operand → Output
combined minus room a b = result_of room 0 (operands_refusal a b) a.modes (sum_terms minus a b)

abbrev pub added : ℕ → Operand → Operand → Output
added room a b = combined false room a b

abbrev pub subtracted : ℕ → Operand → Operand → Output
subtracted room a b = combined true room a b
