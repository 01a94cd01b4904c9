-- `record::check` meets its contract, for any bytes.
use native.Mathlib.Omega.{arith}
use mathlib.Core.Path.{sym, ◌∙◌}
use Rattle.record.proofs.Header.{laid}
use Rattle.record.proofs.Checking.{refused_is, not_laid}
use Rattle.record.proofs.check.Goals as goal

pub returns-then-not-laid_out : goal.returns-then-not-laid_out
returns-then-not-laid_out c = refused_is _ _ _ (not_laid _ _ (sym c.laid_out.ensures ∙ c.if-not-laid_out.true))

pub half-m-requires : goal.half-m-requires
half-m-requires c = omega (arith, (laid _ (sym c.laid_out.ensures ∙ c.if-not-laid_out.false)).size)

pub half-n-requires : goal.half-n-requires
half-n-requires c = omega (arith, (laid _ (sym c.laid_out.ensures ∙ c.if-not-laid_out.false)).size)

pub check_terms-requires : goal.check_terms-requires
check_terms-requires c = (sym c.laid_out.ensures ∙ c.if-not-laid_out.false, c.half-m.ensures.0, c.half-n.ensures.0)
