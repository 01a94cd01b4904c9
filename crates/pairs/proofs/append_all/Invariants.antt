use lib.ListN.{drop}
use Rattle.std.specs.Prelude.{is_some}
use Rattle.pairs.specs.Products.{minus_of, all_rows}
use Rattle.pairs.proofs.Pairing.{Progress}
use Rattle.pairs.proofs.append_all.Given as goal

abbrev pub invariant-loop-i : goal.invariant-loop-i
invariant-loop-i l =
    Progress (all_rows (is_some l.other) (minus_of l.other) l.a l.b) (all_rows (is_some l.other) (minus_of l.other) (drop l.i l.a) l.b)
    l.initial.work (record { used = 0; held = 0 }) l.work l.at
