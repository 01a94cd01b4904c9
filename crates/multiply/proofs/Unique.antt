-- No two answers, outputs or works meet a promise of this crate.
use mathlib.Core.Path.{◌≡◌, sym, ◌∙◌}
use mathlib.Core.List.{List}
use Prim.Native.Nat.{ℕ}
use Rattle.record.specs.Operands.{Operand}
use Rattle.std.specs.Prelude.{Result}
use Rattle.modes.specs.declared.Refusal.{Refusal}
use Rattle.modes.specs.declared.Written.{Written}
use Rattle.lent.specs.Outputs.{Output}
use Rattle.lent.proofs.Outputs.{gives_one}
use Rattle.multiply.specs.Answers.{product_of, commutator_of, anticommutator_of, Leaves}

pub leaves_one : {o : Output} {r s : Result Written Refusal} {x y : List ℕ} {room : ℕ} {w v : List ℕ} → Leaves o r x room w → Leaves o s y room v → (r ≡ s) × (x ≡ y) × (w ≡ v)
leaves_one g h = let one = gives_one g.output h.output in (one.0, one.1, g.clean ∙ sym h.clean)

module _ (work room : ℕ) (a b : Operand) (r s : Result Written Refusal) (x y w v : List ℕ) where
  pub one_product : Leaves (product_of work room a b) r x work w → Leaves (product_of work room a b) s y work v → (r ≡ s) × (x ≡ y) × (w ≡ v)
  one_product = leaves_one

  pub one_commutator : Leaves (commutator_of work room a b) r x work w → Leaves (commutator_of work room a b) s y work v → (r ≡ s) × (x ≡ y) × (w ≡ v)
  one_commutator = leaves_one

  pub one_anticommutator : Leaves (anticommutator_of work room a b) r x work w → Leaves (anticommutator_of work room a b) s y work v → (r ≡ s) × (x ≡ y) × (w ≡ v)
  one_anticommutator = leaves_one
