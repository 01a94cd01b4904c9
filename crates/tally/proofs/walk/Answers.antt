-- `tally::walk` meets its contract. The invariant: what was seen of the terms so far, and that their ranks are counted.
use Rattle.std.proofs.Common.{refl, sym, arith}
use Rattle.tally.proofs.Seeing.{seeing_starts, seeing_goes, untaken_refused}
use Rattle.tally.proofs.Tallying.{tally_starts, tally_goes, number_fits}
use Rattle.tally.proofs.walk.Goals as goal

pub loop-i-init : goal.loop-i-init
loop-i-init c = let pre = c.requires in (seeing_starts _ _, rw (pre.1, pre.2) (tally_starts _))

pub returns-then-not-takes : goal.returns-then-not-takes
returns-then-not-takes c =
    let inv = c.loop-i.invariant in
    let full = c.all_modes-top.ensures in
    let told = c.takes.ensures in
    record {
      bound = omega arith;
      seeing = inv.0;
      tallying = inv.1;
      ended = λ h. untaken_refused _ _ _ _ inv.0 _ c.get-t.ensures _ c.size-k.ensures _ full _ told c.if-not-takes.true;
    }

pub overflow_add-counts : goal.overflow_add-counts
overflow_add-counts c =
    let term = c.get-t.ensures in
    record { fits = number_fits _ _ _ _ c.loop-i.invariant.1 _ term _ c.rank-at.ensures _ (sym c.len-n.ensures) c.len-n.type_inv }

pub loop-i-preserved : goal.loop-i-preserved
loop-i-preserved c =
    let inv = c.loop-i.invariant in
    let term = c.get-t.ensures in
    let size = c.size-k.ensures in
    let full = c.all_modes-top.ensures in
    let told = c.takes.ensures in
    let added = c.wrapping_add_u64.ensures.value in (
      seeing_goes _ _ _ _ inv.0 _ term _ size _ full _ told c.if-not-takes.false _ c.with-seen.ensures,
      tally_goes _ _ _ _ inv.1 _ term _ c.rank-at.ensures _ size.0 _ _ refl added,
    )
