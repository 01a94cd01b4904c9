-- `shelf::get` meets its contract: 18, 19, or what the half gives.
use mathlib.Core.Path.{ap}
use native.Mathlib.Omega.{arith}
use Rattle.modes.proofs.Refusals.{refused_by}
use Rattle.shelf.specs.Requests.{Length, tells}
use Rattle.shelf.proofs.Answering.{shelf_refuses}
use Rattle.shelf.proofs.Reaching.{reached, reach_long, got_leaves}
use Rattle.shelf.proofs.get.Goals as goal

pub returns-in-Err : goal.returns-in-Err
returns-in-Err c =
    let told = refused_by _ _ _ c.in-Err.ensures in
    shelf_refuses _ _ _ _ _ _ told (ap (tells Length) c.refuse.ensures.0) c.refuse.ensures.1

pub overflow_add-start : goal.overflow_add-start
overflow_add-start c =
    let at = reached _ _ _ c.in-Ok.ensures in
    record { fits = omega (arith, at) }

pub slice_bounds-as_array-end : goal.slice_bounds-as_array-end
slice_bounds-as_array-end c = omega (arith, reached _ _ _ c.in-Ok.ensures)

pub unwrap-half-requires : goal.unwrap-half-requires
unwrap-half-requires c = c.as_array.ensures.variant.1 (reach_long _ _ _ c.in-Ok.ensures)

pub returns : goal.returns
returns c =
    let chunk = rw c.unwrap-half.ensures at c.as_array.ensures.cases in
    got_leaves _ _ _ c.in-Ok.ensures _ _ _ _ _ chunk.same c.get_in.ensures
