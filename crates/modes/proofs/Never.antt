-- A number that no refusal of a call has: it is no number of the tests, in whatever order they stand.
use mathlib.Core.Path.{◌≡◌}
use mathlib.Core.Bool.{Bool, true, false}
use Prim.Native.Nat.{ℕ, ◌<◌}
use native.Mathlib.Omega.{arith}
use Rattle.std.specs.Prelude.{Ok, Err}
use Rattle.modes.specs.declared.Reason.{Reason}
use Rattle.modes.specs.Reasons.{number_of}
use Rattle.modes.specs.Answers.{Verdict, refusal, none, number_in}
use Rattle.modes.specs.Refusals.{need, or_else}

pub record Never (k : ℕ) (r : Verdict) : Type 0 where
  pub not : number_in r ≡ k → ⊥

pub never_none : (k : ℕ) → 0 < k → Never k none
never_none k h = record { not = λ e. absurd (omega arith) }

pub never_or : {k : ℕ} {r s : Verdict} → Never k r → Never k s → Never k (or_else r s)
unfolding or_else
never_or {r = Ok x} hr hs = hs
never_or {r = Err f} hr hs = hr

-- a test whose refusal has another number
pub never_need : {k : ℕ} (b : Bool) (n : Reason) (o p : ℕ) → 0 < k → (number_of n ≡ k → ⊥) → Never k (need b (refusal n o p))
never_need {k} true n o p h other = never_none k h
never_need false n o p h other = record { not = other }
