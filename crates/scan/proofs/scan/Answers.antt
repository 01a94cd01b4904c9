-- `scan::scan` meets its contract. The invariant: what the lines so far leave of the refusal, and their sums.
use mathlib.Core.Path.{refl, sym, ap, ◌∙◌}
use native.Mathlib.Omega.{arith}
use Rattle.std.specs.Prelude.{Result, Err}
use Rattle.modes.specs.declared.Refusal.{Refusal}
use Rattle.modes.proofs.Refusals.{handed_on}
use Rattle.scan.specs.declared.Sums.{Sums}
use Rattle.scan.proofs.Scanning.{last_open, line_broken, line_refused, goes, few, scanned, text_refused}
use Rattle.scan.proofs.scan.Goals as goal

abbrev told : Refusal → Result Sums Refusal
told r = Err r

pub returns-then-end-text : goal.returns-then-end-text
returns-then-end-text c =
    ap told c.broken.ensures
    ∙ text_refused _ _ _ (last_open _ _ _ _ _ c.loop-at.invariant _ c.piece_end-end.ensures.0 c.loop-at-test.true c.if-end-text.true)

pub returns-in_default : goal.returns-in_default
returns-in_default c =
    let piece = c.piece_end-end.ensures in
    ap told c.broken-in_default.ensures
    ∙ text_refused _ _ _
    (line_broken _ _ _ _ _ c.loop-at.invariant _ piece.0 (omega (arith, piece.1, c.if-end-text.false)) c.in_default.ensures)

pub returns-in_err-line_refusal : goal.returns-in_err-line_refusal
returns-in_err-line_refusal c =
    let piece = c.piece_end-end.ensures in
    handed_on _ _ c.from_residual.ensures.0 c.from_residual.ensures.1
    ∙ text_refused _ _ _
    (line_refused _ _ _ _ _ c.loop-at.invariant _ piece.0 (omega (arith, piece.1, c.if-end-text.false)) _ c.in-Some.ensures _
    c.in_err-line_refusal.ensures (λ z. cc))

pub with_line-sums-requires : goal.with_line-sums-requires
with_line-sums-requires c =
    let inv = c.loop-at.invariant in
    (inv.burden_low, inv.spread_low, few c.in-Some.x c.loop-at.place (sym c.in_ok-line_refusal.ensures))

pub loop-at-preserved : goal.loop-at-preserved
loop-at-preserved c =
    let piece = c.piece_end-end.ensures in
    goes _ _ _ _ _ c.loop-at.invariant _ piece.0 (omega (arith, piece.1, c.if-end-text.false)) _ c.in-Some.ensures _
    c.in_ok-line_refusal.ensures refl _ c.with_line-sums.ensures.0 c.with_line-sums.ensures.1

pub returns : goal.returns
returns c = scanned _ _ _ _ _ c.loop-at.invariant c.loop-at-test.false
