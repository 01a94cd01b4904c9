-- What the answer says of the product, the commutator and the anticommutator of the two records.
use mathlib.Core.Path.{◌≡◌, sym, ap, ◌∙◌}
use mathlib.Core.Bool.{true, false}
use mathlib.Core.List.{List}
use Prim.Native.Nat.{ℕ, ◌+◌}
use native.Mathlib.Nat.{add-zero}
use Rattle.std.specs.Prelude.{Ok}
use Rattle.modes.proofs.Refusals.{not_refused}
use Rattle.record.specs.Operands.{read_as}
use Rattle.record.specs.Layout.{terms_of}
use Rattle.pairs.specs.Products.{all_branches}
use Rattle.multiply.specs.Answers.{work_refusal}
use Rattle.branches.specs.Branches.{counted, branches_in, branches_refusal, branches_told}
use Rattle.branches.specs.declared.BranchCounts.{BranchCounts}

module _ (a b : List ℕ) (r : BranchCounts) (er : Ok r ≡ branches_told (read_as 1 a) (read_as 2 b)) where
  is : r ≡ counted (branches_in (read_as 1 a) (read_as 2 b)) (branches_in (read_as 2 b) (read_as 1 a))
  is = (not_refused _ (branches_refusal (read_as 1 a) (read_as 2 b)) r er).1

  -- 7 refuses the product of a and b as if its branches were those told, whatever the work
  pub mul_work : (work : ℕ) → work_refusal work (all_branches false (terms_of a) (terms_of b)) ≡ work_refusal work r.forward
  unfolding all_branches
  mul_work work = ap (work_refusal work) (add-zero (branches_in (read_as 1 a) (read_as 2 b)) ∙ sym (ap (λ (x : BranchCounts). x.forward) is))

  -- and the commutator and the anticommutator as if theirs were the sum of the two
  pub both_work : (work : ℕ) → work_refusal work (all_branches true (terms_of a) (terms_of b)) ≡ work_refusal work (r.forward + r.backward)
  unfolding all_branches
  both_work work = ap (λ (x : BranchCounts). work_refusal work (x.forward + x.backward)) (sym is)
