use lib.ListN.{drop}
use Rattle.pairs.specs.Products.{branches_with}
use Rattle.branches.proofs.Ceiling.{Counts}
use Rattle.branches.proofs.of_term.Given as goal

abbrev pub invariant-loop-j : goal.invariant-loop-j
invariant-loop-j l = Counts l.so_far (branches_with l.t (drop l.j l.b)) (branches_with l.t l.b)
