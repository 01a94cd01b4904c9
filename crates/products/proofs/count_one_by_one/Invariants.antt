use mathlib.Core.Path.{◌≡◌}
use Prim.Native.Nat.{◌+◌, ◌^◌, ◌<◌}
use Rattle.modes.specs.Words.{bit}
use Rattle.modes.specs.Counts.{exchanges}
use Rattle.products.proofs.count_one_by_one.Given as goal

abbrev pub invariant-loop-rest : goal.invariant-loop-rest
invariant-loop-rest l = (l.rest < 2 ^ 64) × (l.count + exchanges 64 (bit l.word) (bit l.rest) ≡ exchanges 64 (bit l.word) (bit l.at))

abbrev pub decreases-loop-rest : goal.decreases-loop-rest
decreases-loop-rest l = l.rest
