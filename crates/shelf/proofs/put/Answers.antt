-- `shelf::put` meets its contract: 18, 19, or what the half leaves, the other half as it was.
use mathlib.Core.Path.{refl, ap}
use native.Mathlib.Omega.{arith}
use Rattle.modes.proofs.Refusals.{handed_on, refused_by}
use Rattle.shelf.specs.Requests.{Slot, tells}
use Rattle.shelf.proofs.Answering.{shelf_refuses}
use Rattle.shelf.proofs.Reaching.{reached, lent_leaves}
use Rattle.shelf.proofs.put.Goals as goal

pub returns-in_err-start : goal.returns-in_err-start
returns-in_err-start c =
    let told = refused_by _ _ _ c.in_err-start.ensures in
    shelf_refuses _ _ _ _ _ _ told (ap (tells Slot) (handed_on _ _ c.from_residual.ensures.0 c.from_residual.ensures.1)) refl

pub split_at_mut-from_start-requires : goal.split_at_mut-from_start-requires
split_at_mut-from_start-requires c = omega (arith, reached _ _ _ c.in_ok-start.ensures)

pub unwrap-half-requires : goal.unwrap-half-requires
unwrap-half-requires c =
    let at = reached _ _ _ c.in_ok-start.ensures in
    c.first_chunk_mut.ensures.variant.1 (omega (arith, at))

pub returns : goal.returns
returns c =
    let chunk = rw c.unwrap-half.ensures at c.first_chunk_mut.ensures.cases in
    let parts = c.split_at_mut-from_start.ensures in
    lent_leaves _ _ _ c.in_ok-start.ensures _ _ _ _ _ _ _ parts.front parts.back chunk.same c.put_in.ensures
