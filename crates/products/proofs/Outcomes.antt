-- The phase rule's outcome of a term, and what blocked it, read off the answer of `apply_op_ket_u64`.
use mathlib.Core.Path.{◌≡◌, refl, ap, ap₂}
use mathlib.Core.Bool.{false}
use Prim.Native.Nat.{ℕ}
use native.Mathlib.Omega.{arith}
use Rattle.modes.specs.declared.Sign.{Sign}
use Rattle.products.specs.PhaseRule.{Outcome, gone, went, term}
use Rattle.products.specs.Apply.{blocked_by, apply_result_of, applied}
use Rattle.products.specs.declared.Blocked.{Blocked}
use Rattle.products.specs.declared.ApplyResult.TheVariants.{Applied, Zero}

module _ (by : Blocked) where
  outcome_gone : (o : Outcome) (b : Blocked) → apply_result_of by o ≡ Zero b → o ≡ gone
  outcome_gone gone b e = refl
  outcome_gone (went w s) b e = let q : ◌≡◌ {A = ℕ} 0 1 = cc in absurd (omega arith)

  outcome_blocked : (o : Outcome) (b : Blocked) → apply_result_of by o ≡ Zero b → b ≡ by
  outcome_blocked gone b e = cc
  outcome_blocked (went w s) b e = let q : ◌≡◌ {A = ℕ} 0 1 = cc in absurd (omega arith)

  outcome_went : (o : Outcome) (word : ℕ) (sign : Sign) → apply_result_of by o ≡ Applied word sign → o ≡ went word sign.0
  outcome_went gone word sign e = let q : ◌≡◌ {A = ℕ} 0 1 = cc in absurd (omega arith)
  outcome_went (went w s) word sign e =
      let p : w ≡ word = cc in
      let q : record { 0 = s } ≡ sign = cc in
      ap₂ went p (ap (λ (x : Sign). x.0) q)

module _ (cre ann ket : ℕ) where
  pub went_where_applied : (word : ℕ) (sign : Sign) → applied cre ann ket ≡ Applied word sign → term cre ann (went ket false) ≡ went word sign.0
  went_where_applied = outcome_went (blocked_by cre ann ket) (term cre ann (went ket false))

  -- Zero exactly where the phase rule's outcome is Zero
  pub gone_where_zero : {b : Blocked} → applied cre ann ket ≡ Zero b → term cre ann (went ket false) ≡ gone
  gone_where_zero {b} = outcome_gone (blocked_by cre ann ket) (term cre ann (went ket false)) b

  pub zero_where_gone : term cre ann (went ket false) ≡ gone → applied cre ann ket ≡ Zero (blocked_by cre ann ket)
  zero_where_gone e = ap (apply_result_of (blocked_by cre ann ket)) e

  pub blocked_where_zero : (b : Blocked) → applied cre ann ket ≡ Zero b → b ≡ blocked_by cre ann ket
  blocked_where_zero = outcome_blocked (blocked_by cre ann ket) (term cre ann (went ket false))
