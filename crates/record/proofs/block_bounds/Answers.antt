-- `record::block_bounds` meets its contract.
use Prim.Native.Nat.{◌≤◌}
use Rattle.record.proofs.Accepted.{accepted, readable}
use Rattle.record.proofs.Blocks.{block_bounded, stretch_none, stretch_some, block_refused, block_found}
use mathlib.Core.Path.{◌∙◌}
use native.Mathlib.Omega.{arith}
use Rattle.record.proofs.block_bounds.Goals as goal

bounded : (c : goal.Else-first-past)
    → (c.in-Ok.c.terms ≤ 2048) × (c.count_below-first.result ≤ c.count_up_to-past.result) ×
    (c.count_up_to-past.result ≤ c.in-Ok.c.terms)
bounded c =
    block_bounded _ _ _ (accepted 1 _ _ c.in-Ok.ensures) _ _
    (rw c.of-terms.ensures at c.count_below-first.ensures) c.count_up_to-past.ensures

pub returns-in_default : goal.returns-in_default
returns-in_default c = block_refused _ _ (λ k e. c.in_default.not-Ok k (c.check.ensures ∙ e))

pub of-terms-requires : goal.of-terms-requires
of-terms-requires c = (readable 1 _ _ (accepted 1 _ _ c.in-Ok.ensures)).0

pub count_below-first-requires : goal.count_below-first-requires
count_below-first-requires c = rw c.of-terms.ensures (readable 1 _ _ (accepted 1 _ _ c.in-Ok.ensures)).1

pub count_up_to-past-requires : goal.count_up_to-past-requires
count_up_to-past-requires c = readable 1 _ _ (accepted 1 _ _ c.in-Ok.ensures)

pub returns-then-first-past : goal.returns-then-first-past
returns-then-first-past c =
    stretch_none _ _ _ c.if-first-past.true ∙ block_found _ _ _ (accepted 1 _ _ c.in-Ok.ensures) _ _ (rw c.of-terms.ensures at c.count_below-first.ensures)
    c.count_up_to-past.ensures

pub overflow_mul-result : goal.overflow_mul-result
overflow_mul-result c = omega (arith, bounded c)

pub overflow_add-result : goal.overflow_add-result
overflow_add-result c = omega (arith, bounded c)

pub overflow_mul-result-2 : goal.overflow_mul-result-2
overflow_mul-result-2 c = omega (arith, bounded c)

pub overflow_add-result-2 : goal.overflow_add-result-2
overflow_add-result-2 c = omega (arith, bounded c)

pub overflow_sub-result : goal.overflow_sub-result
overflow_sub-result c = omega (arith, bounded c)

pub overflow_mul-result-3 : goal.overflow_mul-result-3
overflow_mul-result-3 c = omega (arith, bounded c)

pub returns : goal.returns
returns c =
    stretch_some _ _ _ c.if-first-past.false ∙ block_found _ _ _ (accepted 1 _ _ c.in-Ok.ensures) _ _ (rw c.of-terms.ensures at c.count_below-first.ensures)
    c.count_up_to-past.ensures
