-- No two answers meet a promise of this crate.
use mathlib.Core.Path.{◌≡◌}
use mathlib.Core.List.{List}
use Prim.Native.Nat.{ℕ}
use Rattle.modes.specs.declared.Term.{Term}
use Rattle.modes.specs.declared.Refusal.{Refusal}
use Rattle.modes.specs.declared.Written.{Written}
use Rattle.std.specs.Prelude.{Result}
use Rattle.modes.specs.Answers.{Verdict, none}
use Rattle.modes.proofs.Unique.{one}
use Rattle.lent.specs.Outputs.{Gives}
use Rattle.lent.proofs.Outputs.{gives_one}
use Rattle.results.specs.Results.{opened_of, result_refusal, result_of}
use Rattle.results.specs.declared.Opened.{Opened}

pub one_opening : (a b : List ℕ) (r s : Result Opened Refusal) → r ≡ opened_of a b → s ≡ opened_of a b → r ≡ s
one_opening a b r s = one

pub one_verdict : (room n w : ℕ) (r s : Verdict) → r ≡ result_refusal room n w → s ≡ result_refusal room n w → r ≡ s
one_verdict room n w r s = one

pub one_delivery : (room branches m : ℕ) (ts : List Term) (r s : Result Written Refusal) (x y : List ℕ) → Gives (result_of room branches none m ts) r x
    → Gives (result_of room branches none m ts) s y → (r ≡ s) × (x ≡ y)
one_delivery room branches m ts r s x y = gives_one
