use lib.ListN.{drop}
use Rattle.std.specs.Prelude.{is_some}
use Rattle.pairs.specs.Products.{minus_of, rows_with}
use Rattle.pairs.proofs.Pairing.{Progress}
use Rattle.pairs.proofs.append_with.Given as goal

abbrev pub invariant-loop-j : goal.invariant-loop-j
invariant-loop-j l =
    Progress (rows_with (is_some l.other) (minus_of l.other) l.t l.b) (rows_with (is_some l.other) (minus_of l.other) l.t (drop l.j l.b))
    l.initial.work l.initial.at l.work l.at
