-- `record::Terms::len` meets its contract.
use mathlib.Core.Path.{sym, ap, ◌∙◌}
use lib.ListN.{length}
use Rattle.record.proofs.Reading.{length_terms}
use Rattle.record.proofs.Terms.len.Goals as goal

pub returns : goal.returns
returns c = sym (length_terms _ _) ∙ ap length c.self.view_is
