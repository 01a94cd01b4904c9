-- The first refusal of several, and answers whose place a refusal takes.
use Rattle.std.specs.Prelude.{Bool, cond, ℕ, zero, suc, Result, Ok, Err}
use Rattle.modes.specs.declared.Refusal.{Refusal}
use Rattle.modes.specs.Answers.{Verdict, none}

-- r refuses, unless the test holds
abbrev pub need : Bool → Refusal → Verdict
need holds r = cond holds none (Err r)

-- the first, or the second where the first refuses nothing
unfoldable pub or_else : Verdict → Verdict → Verdict
or_else (Ok x) s = s
or_else (Err r) s = Err r

-- the first refusal of those at the places below n
unfoldable pub first_refusal : (ℕ → Verdict) → ℕ → Verdict
first_refusal r zero = none
first_refusal r (suc n) = or_else (first_refusal r n) (r n)

-- the answer, unless a refusal takes its place: then what is answered to that
unfoldable pub unless : {A : Type 0} → Verdict → (Refusal → A) → A → A
unless (Ok x) refused answer = answer
unless (Err r) refused answer = refused r

-- the answer of a call that is refused or answers x
abbrev pub answered : {A : Type 0} → Verdict → A → Result A Refusal
answered v x = unless v Err (Ok x)
