use lib.ListN.{drop}
use Rattle.pairs.specs.Products.{branches_of_all}
use Rattle.branches.proofs.Ceiling.{Counts}
use Rattle.branches.proofs.of_all.Given as goal

abbrev pub invariant-loop-i : goal.invariant-loop-i
invariant-loop-i l = Counts l.so_far (branches_of_all (drop l.i l.a) l.b) (branches_of_all l.a l.b)
