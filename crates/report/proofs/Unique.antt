-- No two answers meet a promise of this crate.
use mathlib.Core.Path.{◌≡◌}
use mathlib.Core.List.{List}
use Prim.Native.Nat.{ℕ}
use Rattle.modes.proofs.Unique.{one}
use Rattle.record.specs.Operands.{Operand}
use Rattle.report.specs.Reports.{Counts}
use Rattle.std.specs.Prelude.{Result}
use Rattle.modes.specs.declared.Refusal.{Refusal}
use Rattle.modes.specs.Answers.{Verdict}

pub one_count : (l : List ℕ) (a : Operand) (r s : Result Verdict Refusal) (k j : List ℕ) → Counts l a r k → Counts l a s j → (r ≡ s) × (k ≡ j)
one_count l a r s k j p q = (one p.answer q.answer, one p.numbers q.numbers)
