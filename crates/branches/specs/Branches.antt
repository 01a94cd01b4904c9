-- The branches of the two products of two records, told without multiplying them out.
use Rattle.std.specs.Prelude.{ℕ, ◌+◌, ◌^◌, Result}
use Rattle.modes.specs.declared.Refusal.{Refusal}
use Rattle.modes.specs.Answers.{Verdict}
use Rattle.record.specs.Operands.{Operand}
use Rattle.modes.specs.Refusals.{or_else, answered}
use Rattle.results.specs.Results.{operands_refusal}
use Rattle.pairs.specs.Products.{branches_of_all}
use Rattle.multiply.specs.Answers.{work_refusal}
use Rattle.branches.specs.declared.BranchCounts.{BranchCounts}

-- those of a b, and those of b a
abbrev pub counted : ℕ → ℕ → BranchCounts
counted forward backward = record { forward = forward; backward = backward }

-- one order alone: the branches of the product of the first record and the second
abbrev pub branches_in : Operand → Operand → ℕ
branches_in a b = branches_of_all a.terms b.terms

-- both records and 6; then 7, if no work of up to 2^63 bytes would hold a row for each branch of both orders
abbrev pub branches_refusal : Operand → Operand → Verdict
branches_refusal a b = or_else (operands_refusal a b) (work_refusal (2 ^ 63) (branches_in a b + branches_in b a))

abbrev pub branches_told : Operand → Operand → Result BranchCounts Refusal
branches_told a b = answered (branches_refusal a b) (counted (branches_in a b) (branches_in b a))
