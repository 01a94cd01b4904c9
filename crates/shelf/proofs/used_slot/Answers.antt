-- `shelf::used_slot` meets its contract: each way out is a test of the definition.
use mathlib.Core.Path.{sym, ◌∙◌}
use Rattle.shelf.proofs.Refusals.{slot_damaged, slot_beyond, slot_empty, slot_found}
use Rattle.shelf.proofs.used_slot.Goals as goal

pub returns-then-not-is_whole : goal.returns-then-not-is_whole
returns-then-not-is_whole c = slot_damaged _ _ (sym c.is_whole.ensures ∙ c.if-not-is_whole.true)

pub returns-then-slot : goal.returns-then-slot
returns-then-slot c = slot_beyond _ _ (sym c.is_whole.ensures ∙ c.if-not-is_whole.false) c.if-slot.true

pub returns-then-is_free : goal.returns-then-is_free
returns-then-is_free c =
    slot_empty _ _ (sym c.is_whole.ensures ∙ c.if-not-is_whole.false) c.if-slot.false (sym c.is_free.ensures ∙ c.if-is_free.true)

pub returns : goal.returns
returns c =
    slot_found _ _ (sym c.is_whole.ensures ∙ c.if-not-is_whole.false) c.if-slot.false (sym c.is_free.ensures ∙ c.if-is_free.false)
