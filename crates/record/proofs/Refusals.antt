-- The refusal of one term, case by case.
use mathlib.Core.Path.{◌≡◌}
use mathlib.Core.Bool.{Bool, true, false}
use Prim.Native.Nat.{ℕ}
use lib.IntN.{nat_abs}
use borrow.Author.Tests.{eq-eqb, ne_eqb}
use Rattle.modes.specs.declared.Term.{Term}
use Rattle.std.specs.Prelude.{Err}
use Rattle.modes.specs.declared.Reason.TheVariants.{WordOutside, OutOfOrder, ZeroCoeff}
use Rattle.modes.specs.Answers.{refusal, none}
use Rattle.modes.specs.Refusals.{or_else}
use Rattle.modes.specs.Spaces.{inside}
use Rattle.record.specs.Refusals.{term_refusal}

module _ (o m i : ℕ) (up : Bool) (t : Term) where
  pub outside : inside m t.cre t.ann ≡ false → Err (refusal WordOutside o i) ≡ term_refusal o m i up t
  unfolding term_refusal or_else
  outside e = rw e

  module _ (e : inside m t.cre t.ann ≡ true) where
    pub not_above : up ≡ false → Err (refusal OutOfOrder o i) ≡ term_refusal o m i up t
    unfolding term_refusal or_else
    not_above u = rw (e, u)

    pub zero_coefficient : up ≡ true → nat_abs t.coeff ≡ 0 → Err (refusal ZeroCoeff o i) ≡ term_refusal o m i up t
    unfolding term_refusal or_else
    zero_coefficient u z = rw (e, u, eq-eqb _ _ z)

    pub right_term : up ≡ true → (nat_abs t.coeff ≡ 0 → ⊥) → none ≡ term_refusal o m i up t
    unfolding term_refusal or_else
    right_term u z = rw (e, u, ne_eqb _ _ z)
