use mathlib.Core.Path.{◌≡◌}
use Rattle.report.specs.Reports.{report_in, all_within}
use Rattle.report.proofs.ranks_within.Given as goal

abbrev pub invariant-loop-r : goal.invariant-loop-r
invariant-loop-r l = l.all ≡ all_within (report_in l.report).rank l.r
