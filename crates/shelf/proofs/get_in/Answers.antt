-- `shelf::get_in` meets its contract: 19, 22, 11, or the copy and zeros past it.
use mathlib.Core.Path.{ap, ◌∙◌}
use Rattle.modes.proofs.Refusals.{refused_by}
use Rattle.shelf.specs.Requests.{Length, tells}
use Rattle.shelf.proofs.Answering.{half_refuses, get_leaves}
use Rattle.shelf.proofs.Refusals.{found, get_slot, get_short, get_fits}
use Rattle.shelf.proofs.get_in.Goals as goal

pub returns-in-Err : goal.returns-in-Err
returns-in-Err c =
    let told = get_slot _ _ _ _ (refused_by _ _ _ c.in-Err.ensures) in
    half_refuses _ _ _ _ _ told (ap (tells Length) c.refuse.ensures.0) c.refuse.ensures.1

pub place_of-place-requires : goal.place_of-place-requires
place_of-place-requires c = (found _ _ _ c.in-Ok.ensures).low

pub length_of-len-requires : goal.length_of-len-requires
length_of-len-requires c = (found _ _ _ c.in-Ok.ensures).low

pub returns-then-out-len : goal.returns-then-out-len
returns-then-out-len c =
    let slot = found _ _ _ c.in-Ok.ensures in
    let told = get_short _ _ _ slot.fine (rw (c.length_of-len.ensures.0, slot.is) at c.if-out-len.true) in
    half_refuses _ _ _ _ _ told (ap (tells Length) c.refuse-then-out-len.ensures.0) c.refuse-then-out-len.ensures.1

pub slice_bounds-copy-end : goal.slice_bounds-copy-end
slice_bounds-copy-end c =
    rw (c.place_of-place.ensures.0, c.length_of-len.ensures.0) (found _ _ _ c.in-Ok.ensures).inside

pub returns : goal.returns
returns c =
    let slot = found _ _ _ c.in-Ok.ensures in
    let place = c.place_of-place.ensures.0 ∙ rw slot.is in
    let long = c.length_of-len.ensures.0 ∙ rw slot.is in
    let told = get_fits _ _ _ slot.fine (rw long at c.if-out-len.false) in
    get_leaves _ _ _ _ _ _ told (rw (place, long, c.told-half, ← slot.is) slot.inside) place long c.if-out-len.false
    c.copy.ensures _ c.wipe_from.ensures
