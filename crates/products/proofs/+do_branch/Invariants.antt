use Rattle.products.proofs.+do_branch.Given as goal

abbrev pub decreases-do_branch : goal.decreases-do_branch
decreases-do_branch l = l.left
