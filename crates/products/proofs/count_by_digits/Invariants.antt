use Prim.Native.Nat.{◌^◌}
use Rattle.modes.proofs.Halves.{Rounds}
use Rattle.products.proofs.count_by_digits.Given as goal

abbrev pub invariant-loop-k : goal.invariant-loop-k
invariant-loop-k l = Rounds 64 l.word l.at l.left l.count (2 ^ l.k)
