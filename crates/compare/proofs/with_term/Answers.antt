-- `compare::with_term` meets its contract: each way out is a case of the definition.
use mathlib.Core.Path.{sym, ◌∙◌}
use Rattle.compare.proofs.Finding.{left_out, counted, stays, leads, first}
use Rattle.integers.proofs.SignedNumbers.{zero_bits, nonzero_bits}
use borrow.Author.Rules.{rules}
use Rattle.compare.proofs.with_term.Goals as goal

pub returns-then-t-eq0 : goal.returns-then-t-eq0
returns-then-t-eq0 c = left_out _ _ (zero_bits c.args.t.coeff (search rules) c.if-t-eq0.true)

pub returns-then-is_ahead : goal.returns-then-is_ahead
returns-then-is_ahead c =
    counted _ _ (nonzero_bits c.args.t.coeff c.if-t-eq0.false)
    (leads _ _ c.in-Some.is (sym c.is_ahead.ensures ∙ c.if-is_ahead.true))

pub returns-else-is_ahead : goal.returns-else-is_ahead
returns-else-is_ahead c =
    counted _ _ (nonzero_bits c.args.t.coeff c.if-t-eq0.false)
    (stays _ _ c.in-Some.is (sym c.is_ahead.ensures ∙ c.if-is_ahead.false))

pub returns-in-None : goal.returns-in-None
returns-in-None c = counted _ _ (nonzero_bits c.args.t.coeff c.if-t-eq0.false) (first _ _ c.in-None.is)
