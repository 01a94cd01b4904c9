-- `slots::free_slot` meets its contract: no slot so far is free.
use native.Mathlib.Omega.{arith}
use mathlib.Core.Path.{sym, ◌∙◌}
use Rattle.modes.proofs.LowestMode.{lowest_one}
use Rattle.slots.proofs.Wholes.{lowest_all}
use Rattle.slots.proofs.free_slot.Goals as goal

pub returns-then-is_free : goal.returns-then-is_free
returns-then-is_free c =
    (sym (lowest_one 16 _ _ c.loop-i-test.true (sym c.is_free.ensures ∙ c.if-is_free.true) c.loop-i.invariant), c.loop-i-test.true)

pub returns : goal.returns
returns c = lowest_all 16 _ (λ q l. c.loop-i.invariant q (omega arith))
