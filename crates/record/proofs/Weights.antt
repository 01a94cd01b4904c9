-- A weight that is summed as far as the ceiling tells whether the whole sum is above it, and else is the sum.
use mathlib.Core.Path.{◌≡◌, refl, sym, ap, ◌∙◌}
use mathlib.Core.Bool.{Bool, true, false, cond}
use mathlib.Core.List.{List, [], ◌∷◌}
use Prim.Native.Nat.{ℕ, zero, suc, ◌+◌, ◌^◌, ◌≤◌, ◌<◌}
use native.Mathlib.Omega.{arith}
use lib.Dec.{leb}
use lib.IntN.{nat_abs}
use lib.ListN.{drop}
use lib.Seq.{drop-nil}
use borrow.Author.Tests.{leb-true, leb-false}
use Rattle.modes.specs.declared.Term.{Term}
use Rattle.record.specs.Terms.{weight}
use Rattle.record.specs.Reading.{At}
use Rattle.record.specs.Weights.{heavier_by}

-- w is the sum so far, left is still to come, and total is all
pub record Weighs (w left total : ℕ) : Type 0 where
  pub exact : w ≤ 2 ^ 60 → w + left ≡ total
  pub over : 2 ^ 60 < w → 2 ^ 60 < total

pub weighs_start : (t : ℕ) → Weighs 0 t t
weighs_start t = record { exact = λ h. omega arith; over = λ h. absurd (omega arith) }

pub weighs_more : (w k left total : ℕ) → Weighs w (k + left) total → Weighs (heavier_by k w) left total
unfolding heavier_by
weighs_more w k left total g = go (leb w (2 ^ 60)) refl
  where
    go : (b : Bool) → leb w (2 ^ 60) ≡ b → Weighs (cond b (w + k) w) left total
    go true e =
        let q : w ≤ 2 ^ 60 = leb-true w (2 ^ 60) e in
        record { exact = λ z. omega (arith, g.exact q); over = λ z. omega (arith, g.exact q) }
    go false e =
        let q : 2 ^ 60 < w = leb-false w (2 ^ 60) e in
        record { exact = λ z. absurd (omega arith); over = λ z. g.over q }

-- a coefficient is within the weight
pub weight_at : (ts : List Term) (i : ℕ) (t : Term) → At ts i t → nat_abs t.coeff ≤ weight ts
unfolding weight
weight_at ts i t e = go ts i (drop (i + 1) ts) e
  where
    go : (us : List Term) (k : ℕ) (vs : List Term) → drop k us ≡ t ∷ vs → nat_abs t.coeff ≤ weight us
    go [] k vs q =
        let z : ◌≡◌ {A = List Term} [] (t ∷ vs) = sym (drop-nil k) ∙ q in let w : ◌≡◌ {A = ℕ} 0 1 = cc in absurd (omega arith)
    go (u ∷ us) zero vs q = let w : u ≡ t = cc in omega (arith, ap (λ (x : Term). nat_abs x.coeff) w)
    go (u ∷ us) (suc k) vs q = let h = go us k vs q in omega arith
