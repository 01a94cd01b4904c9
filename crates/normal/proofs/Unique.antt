-- No two answers meet the promise of this crate.
use mathlib.Core.Path.{◌≡◌}
use Rattle.modes.specs.declared.Term.{Term}
use Rattle.modes.proofs.Unique.{one}
use Rattle.normal.specs.Normal.{join}

pub one_joined : (t u r s : Term) → r ≡ join t u → s ≡ join t u → r ≡ s
one_joined t u r s = one
