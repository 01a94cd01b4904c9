-- No two answers meet the promise of this crate.
use mathlib.Core.Path.{◌≡◌}
use mathlib.Core.List.{List}
use Prim.Native.Nat.{ℕ}
use Rattle.modes.proofs.Unique.{one}
use Rattle.scan.specs.Scanned.{scanned_of}
use Rattle.std.specs.Prelude.{Result}
use Rattle.modes.specs.declared.Refusal.{Refusal}
use Rattle.scan.specs.declared.Sums.{Sums}

pub one_scan : (m : ℕ) (text : List ℕ) (r s : Result Sums Refusal) → r ≡ scanned_of m text → s ≡ scanned_of m text → r ≡ s
one_scan m text r s = one
