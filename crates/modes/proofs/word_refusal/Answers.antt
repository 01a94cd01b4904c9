-- `modes::word_refusal` meets its contract.
use mathlib.Core.Path.{sym, ◌∙◌}
use Rattle.modes.proofs.word_refusal.Goals as goal

pub returns-then-contains : goal.returns-then-contains
returns-then-contains c = rw (sym c.contains.ensures ∙ c.if-contains.true)

pub returns : goal.returns
returns c = rw (sym c.contains.ensures ∙ c.if-contains.false)
