-- The exact element of an operator at (bra, ket): the operator's refusals, then 12 for the bra, then 12 for the ket.
use Rattle.std.specs.Prelude.{ℕ, ℤ, Result}
use Rattle.modes.specs.Answers.{Verdict}
use Rattle.modes.specs.Refusals.{or_else, answered}
use Rattle.modes.specs.Spaces.{words_refusal}
use Rattle.modes.specs.declared.Refusal.{Refusal}
use Rattle.products.specs.Operators.{element}
use Rattle.record.specs.Operands.{Operand}

abbrev pub element_refusal : Operand → ℕ → ℕ → Verdict
element_refusal a bra ket = or_else a.refusal (words_refusal a.modes bra ket)

abbrev pub element_of : Operand → ℕ → ℕ → Result ℤ Refusal
element_of a bra ket = answered (element_refusal a bra ket) (element bra ket a.terms)
