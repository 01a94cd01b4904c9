-- No two answers meet a promise of this crate.
use mathlib.Core.Path.{◌≡◌}
use Rattle.record.specs.Operands.{Operand}
use Prim.Native.Nat.{ℕ, ◌≤◌, max}
use Rattle.modes.specs.declared.Term.{Term}
use Rattle.modes.proofs.Unique.{one}
use mathlib.Core.Bool.{Bool}
use Rattle.std.specs.Prelude.{Result}
use Rattle.modes.specs.declared.Refusal.{Refusal}
use Rattle.figures.specs.Figures.{rank_of, conserves_of, max_n_body_of, active_modes_of}

pub one_rank : (t : Term) (r s : ℕ) → (r ≡ rank_of t) × (r ≤ 64) → (s ≡ rank_of t) × (s ≤ 64) → r ≡ s
one_rank t r s p q = one p.0 q.0

pub one_larger : (x y r s : ℕ) → r ≡ max x y → s ≡ max x y → r ≡ s
one_larger x y r s = one

pub one_conserving : (a : Operand) (r s : Result Bool Refusal) → r ≡ conserves_of a → s ≡ conserves_of a → r ≡ s
one_conserving a r s = one

pub one_largest_rank : (a : Operand) (r s : Result ℕ Refusal) → r ≡ max_n_body_of a → s ≡ max_n_body_of a → r ≡ s
one_largest_rank a r s = one

pub one_union : (a : Operand) (r s : Result ℕ Refusal) → r ≡ active_modes_of a → s ≡ active_modes_of a → r ≡ s
one_union a r s = one
