-- No two answers, and no two outputs, meet a promise of this crate.
use mathlib.Core.Path.{◌≡◌, sym, ◌∙◌}
use mathlib.Core.Bool.{Bool}
use mathlib.Core.List.{List, ◌∷◌}
use Prim.Native.Nat.{ℕ}
use Rattle.record.specs.Operands.{Operand}
use Rattle.modes.specs.declared.Term.{Term}
use Rattle.std.specs.Prelude.{Result}
use Rattle.modes.specs.declared.Refusal.{Refusal}
use Rattle.modes.specs.declared.Written.{Written}
use Rattle.lent.specs.Outputs.{Gives}
use Rattle.lent.proofs.Outputs.{gives_one}
use Rattle.modes.proofs.Unique.{one}
use Rattle.lincomb.specs.Sums.{turn, added, subtracted}
use Rattle.lincomb.specs.Merging.{onward, Pulled}
use Rattle.lincomb.specs.declared.Step.{Step}

pub one_sum : (room : ℕ) (a b : Operand) (r s : Result Written Refusal) (x y : List ℕ) → Gives (added room a b) r x → Gives (added room a b) s y
    → (r ≡ s) × (x ≡ y)
one_sum room a b r s x y = gives_one

pub one_difference : (room : ℕ) (a b : Operand) (r s : Result Written Refusal) (x y : List ℕ) → Gives (subtracted room a b) r x
    → Gives (subtracted room a b) s y → (r ≡ s) × (x ≡ y)
one_difference room a b r s x y = gives_one

pub one_turned : (minus : Bool) (t r s : Term) → r ≡ turn minus t → s ≡ turn minus t → r ≡ s
one_turned minus t r s = one

-- the term is the first of those that are left, and what is taken of each record is fixed
pub one_step : (minus : Bool) (ts : List Term) (i : ℕ) (us : List Term) (j : ℕ) (r s : Step) → Pulled minus ts i us j r → Pulled minus ts i us j s → r ≡ s
one_step minus ts i us j r s p q =
    let same : r.term ∷ onward minus ts r.left us r.right ≡ s.term ∷ onward minus ts s.left us s.right = sym p.front ∙ q.front in
    let term : r.term ≡ s.term = cc in
    let left : r.left ≡ s.left = p.left ∙ sym q.left in
    let right : r.right ≡ s.right = p.right ∙ sym q.right in
    λ k. record { term = term k; left = left k; right = right k }
