-- What the product, the commutator and the anticommutator of two records answer, and the whole output at their end.
use Rattle.std.specs.Prelude.{◌≡◌, Result, Bool, true, false, List, ℕ, ◌*◌, ◌^◌, leb}
use Rattle.modes.specs.declared.Refusal.{Refusal}
use Rattle.modes.specs.declared.Written.{Written}
use Rattle.modes.specs.Answers.{Verdict, rows_do_not_fit, product_too_heavy}
use Rattle.lent.specs.Bytes.{zeros}
use Rattle.lent.specs.Outputs.{Output, Gives}
use Rattle.record.specs.Terms.{weight}
use Rattle.record.specs.Operands.{Operand}
use Rattle.modes.specs.Refusals.{need, or_else}
use Rattle.normal.specs.Normal.{normal}
use Rattle.results.specs.Results.{operands_refusal, result_of}
use Rattle.pairs.specs.Products.{all_rows, all_branches}

-- 8: the product of the two weights
unfoldable pub weight_refusal : ℕ → ℕ → Verdict
weight_refusal v w = need (leb (v * w) (2 ^ 60)) product_too_heavy

-- 7: one row of work a branch
unfoldable pub work_refusal : ℕ → ℕ → Verdict
work_refusal room branches = need (leb (24 * branches) room) rows_do_not_fit

-- both operands and 6, then 8, then 7
abbrev pub early_refusal : Bool → ℕ → Operand → Operand → Verdict
early_refusal both work a b =
    or_else (operands_refusal a b) (or_else (weight_refusal (weight a.terms) (weight b.terms)) (work_refusal work (all_branches both a.terms b.terms)))

-- for a work of `work` bytes and an output of `room` bytes
abbrev pub product_answer : Bool → Bool → ℕ → ℕ → Operand → Operand → Output
product_answer both minus work room a b =
    result_of room (all_branches both a.terms b.terms) (early_refusal both work a b) a.modes (normal (all_rows both minus a.terms b.terms))

-- a b
abbrev pub product_of : ℕ → ℕ → Operand → Operand → Output
product_of = product_answer false false

-- a b - b a
abbrev pub commutator_of : ℕ → ℕ → Operand → Operand → Output
commutator_of = product_answer true true

-- a b + b a
abbrev pub anticommutator_of : ℕ → ℕ → Operand → Operand → Output
anticommutator_of = product_answer true false

-- the answer r, the output after and the work at the end: the value's, and a work all zero
pub record Leaves (o : Output) (r : Result Written Refusal) (after : List ℕ) (room : ℕ) (work : List ℕ) : Type 0 where
  pub output : Gives o r after
  pub clean : work ≡ zeros room
