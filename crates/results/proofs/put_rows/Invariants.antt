use mathlib.Core.Path.{◌≡◌}
use lib.ListN.{length}
use Rattle.results.proofs.Delivering.{Placing}
use Rattle.results.proofs.put_rows.Given as goal

abbrev pub invariant-loop-i : goal.invariant-loop-i
invariant-loop-i l = Placing l.work l.n l.i l.out × (length l.out ≡ length l.initial.out)
