-- `shelf::drop_in` meets its contract: 19, 22, or record and entry wiped.
use mathlib.Core.Path.{refl, ap}
use native.Mathlib.Omega.{arith}
use Rattle.modes.proofs.Refusals.{handed_on, refused_by}
use Rattle.shelf.specs.Requests.{Done, tells}
use Rattle.shelf.proofs.Refusals.{found}
use Rattle.shelf.proofs.Answering.{half_refuses, drop_leaves}
use Rattle.shelf.proofs.drop_in.Goals as goal

pub returns-in_err-i : goal.returns-in_err-i
returns-in_err-i c =
    let told = refused_by _ _ _ c.in_err-i.ensures in
    half_refuses _ _ _ _ _ told (ap (tells (λ _. Done)) (handed_on _ _ c.from_residual.ensures.0 c.from_residual.ensures.1)) refl

pub place_of-place-requires : goal.place_of-place-requires
place_of-place-requires c = (found _ _ _ c.in_ok-i.ensures).low

pub length_of-len-requires : goal.length_of-len-requires
length_of-len-requires c = (found _ _ _ c.in_ok-i.ensures).low

pub release-requires : goal.release-requires
release-requires c =
    let slot = found _ _ _ c.in_ok-i.ensures in
    (slot.low, omega (arith, slot.inside))

pub returns : goal.returns
returns c =
    let slot = found _ _ _ c.in_ok-i.ensures in
    drop_leaves _ _ _ _ _ _ slot.fine slot.is c.place_of-place.ensures.0 c.length_of-len.ensures.0 c.release.ensures
