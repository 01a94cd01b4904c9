-- The three ways through the call: refused, too many, or counted.
use mathlib.Core.Path.{◌≡◌, sym, ap₂, ◌∙◌}
use mathlib.Core.List.{List}
use Prim.Native.Nat.{ℕ, ◌+◌, ◌*◌, ◌^◌, ◌≤◌, ◌<◌}
use native.Mathlib.Omega.{arith}
use borrow.Author.Tests.{le-leb, lt-leb}
use Rattle.record.specs.Operands.{read_as}
use Rattle.std.specs.Prelude.{Result, Ok, Err}
use Rattle.modes.specs.declared.Refusal.{Refusal}
use Rattle.branches.specs.declared.BranchCounts.{BranchCounts}
use Rattle.modes.specs.Answers.{none, rows_do_not_fit}
use Rattle.record.specs.Layout.{terms_in}
use Rattle.modes.proofs.Refusals.{the_first, or_second, unless_so, unless_not}
use Rattle.results.specs.Results.{operands_refusal, opened_of}
use Rattle.results.specs.declared.Opened.{Opened}
use Rattle.results.proofs.Results.{Opens, opens, shuts}
use Rattle.record.proofs.Accepted.{sound}
use Rattle.pairs.specs.Products.{branches_of_all}
use Rattle.record.specs.Reading.{Holds}
use Rattle.multiply.specs.Answers.{work_refusal}
use Rattle.branches.specs.Ceiling.{most, up_to}
use Rattle.branches.specs.Branches.{counted, branches_in, branches_refusal, branches_told}
use Rattle.branches.proofs.Ceiling.{sum_over, sum_exact}

-- 7 for a work of 2^63 bytes
no_work : (n : ℕ) → most < n → work_refusal (2 ^ 63) n ≡ Err rows_do_not_fit
unfolding work_refusal
no_work n h = rw (lt-leb (24 * n) (2 ^ 63) (omega arith))

some_work : (n : ℕ) → n ≤ most → work_refusal (2 ^ 63) n ≡ none
unfolding work_refusal
some_work n h = rw (le-leb (24 * n) (2 ^ 63) (omega arith))

abbrev tells : ℕ → ℕ → Result BranchCounts Refusal
tells f g = Ok (counted f g)

module _ (a b : List ℕ) where
  by : (r : Refusal) → branches_refusal (read_as 1 a) (read_as 2 b) ≡ Err r → Err r ≡ branches_told (read_as 1 a) (read_as 2 b)
  by r e = sym (unless_so (branches_refusal (read_as 1 a) (read_as 2 b)) Err _ r e)

  pub pair_refused : (r : Refusal) → Err r ≡ opened_of a b → Err r ≡ branches_told (read_as 1 a) (read_as 2 b)
  pair_refused r e = by r (sym (the_first (operands_refusal (read_as 1 a) (read_as 2 b)) _ r (sym (shuts a b r e))))

  module _ (p : Opened) (ep : Ok p ≡ opened_of a b) where
    ready : Opens a b p
    ready = opens a b p ep

    pub first_there : Holds a p.left
    first_there = (sound 1 a p.left ready.one ready.left).size

    pub second_there : Holds b p.right
    second_there = (sound 2 b p.right ready.two ready.right).size

    after_pair : branches_refusal (read_as 1 a) (read_as 2 b) ≡ work_refusal (2 ^ 63) (branches_in (read_as 1 a) (read_as 2 b) + branches_in (read_as 2 b) (read_as 1 a))
    after_pair = or_second (operands_refusal (read_as 1 a) (read_as 2 b)) _ ready.pair

    -- f and g are the counts of the two orders
    module _ (f g : ℕ) (ef : f ≡ up_to (branches_of_all (terms_in a p.left) (terms_in b p.right)))
        (eg : g ≡ up_to (branches_of_all (terms_in b p.right) (terms_in a p.left))) where
      forward_is : f ≡ up_to (branches_in (read_as 1 a) (read_as 2 b))
      forward_is = ef ∙ ap₂ (λ (x y : ℕ). up_to (branches_of_all (terms_in a x) (terms_in b y))) ready.left ready.right

      backward_is : g ≡ up_to (branches_in (read_as 2 b) (read_as 1 a))
      backward_is = eg ∙ ap₂ (λ (x y : ℕ). up_to (branches_of_all (terms_in b x) (terms_in a y))) ready.right ready.left

      pub too_many : most < f + g → Err rows_do_not_fit ≡ branches_told (read_as 1 a) (read_as 2 b)
      too_many h =
          let over = sum_over (branches_in (read_as 1 a) (read_as 2 b)) (branches_in (read_as 2 b) (read_as 1 a)) (rw (forward_is, backward_is) at h) in
          by rows_do_not_fit (after_pair ∙ no_work _ over)

      pub told : f + g ≤ most → Ok (counted f g) ≡ branches_told (read_as 1 a) (read_as 2 b)
      told h =
          let exact = sum_exact (branches_in (read_as 1 a) (read_as 2 b)) (branches_in (read_as 2 b) (read_as 1 a)) (rw (forward_is, backward_is) at h) in
          let few : branches_in (read_as 1 a) (read_as 2 b) + branches_in (read_as 2 b) (read_as 1 a) ≤ most = omega (arith, forward_is, backward_is, exact.0, exact.1) in
          ap₂ tells (forward_is ∙ exact.0) (backward_is ∙ exact.1)
          ∙ sym (unless_not (branches_refusal (read_as 1 a) (read_as 2 b)) Err _ (after_pair ∙ some_work _ few))
