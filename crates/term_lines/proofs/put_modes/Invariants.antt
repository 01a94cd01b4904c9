use mathlib.Core.Path.{◌≡◌}
use lib.ListN.{length}
use Rattle.term_lines.proofs.Modes.{Writing}
use Rattle.term_lines.proofs.put_modes.Given as goal

abbrev pub invariant-loop-rest : goal.invariant-loop-rest
invariant-loop-rest l = Writing l.kind l.word l.initial.s l.at l.s l.end l.rest × (length l.s ≡ length l.initial.s)

abbrev pub decreases-loop-rest : goal.decreases-loop-rest
decreases-loop-rest l = l.rest
