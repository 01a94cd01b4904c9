-- `shelf::place_in` meets its contract: 20, 21, or the record in the lowest gap.
use mathlib.Core.Path.{refl}
use native.Mathlib.Omega.{arith}
use Rattle.shelf.proofs.Refusals.{placed_long, put_full, put_crowded, put_taken}
use Rattle.slots.proofs.Wholes.{gap_room}
use Rattle.shelf.proofs.Answering.{half_refuses, put_leaves}
use Rattle.shelf.proofs.place_in.Goals as goal

pub returns-in_default : goal.returns-in_default
returns-in_default c = half_refuses _ _ _ _ _ (put_full _ _ c.requires (omega arith)) refl refl

pub gap_for-requires : goal.gap_for-requires
gap_for-requires c =
    let long = placed_long _ _ c.requires in
    (c.requires.whole, omega (arith, long), omega (arith, long))

pub returns-in_default-gap_for : goal.returns-in_default-gap_for
returns-in_default-gap_for c = half_refuses _ _ _ _ _ (put_crowded _ _ c.requires (omega arith) (omega arith)) refl refl

pub hold-requires : goal.hold-requires
hold-requires c =
    let place = c.in-Some-gap_for.ensures.0 in
    let room = rw place at c.in-Some-gap_for.ensures.1 in
    (c.in-Some.ensures.1, rw place (gap_room _ _ room).inside)

pub returns : goal.returns
returns c =
    put_leaves _ _ _ _ _ (put_taken _ _ c.requires (omega arith) (omega arith)) c.in-Some.ensures.0 c.in-Some-gap_for.ensures.0 c.hold.ensures
