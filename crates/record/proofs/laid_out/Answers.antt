-- `record::laid_out` meets its contract.
use mathlib.Core.Path.{sym, ◌∙◌}
use Rattle.record.proofs.Header.{too_short, bad_header, length_decides}
use Rattle.record.proofs.laid_out.Goals as goal

pub returns-then-s-lt-HEADER : goal.returns-then-s-lt-HEADER
returns-then-s-lt-HEADER c = too_short _ c.if-s-lt-HEADER.true

pub returns-then-not-good_header : goal.returns-then-not-good_header
returns-then-not-good_header c = bad_header _ (sym c.good_header.ensures ∙ c.if-not-good_header.true)

pub returns : goal.returns
returns c = length_decides _ _ (sym c.good_header.ensures ∙ c.if-not-good_header.false) c.total.ensures.0
