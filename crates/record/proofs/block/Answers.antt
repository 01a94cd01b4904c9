-- `record::block` meets its contract: the part between the bounds.
use mathlib.Core.Path.{◌≡◌, ap}
use Prim.Native.Nat.{◌+◌, ◌-◌, ◌≤◌}
use native.Mathlib.Omega.{arith}
use lib.ListN.{length}
use Rattle.record.specs.Blocks.{bytes_in}
use Rattle.record.specs.declared.Stretch.{Stretch}
use Rattle.record.proofs.Blocks.{block_inside}
use Rattle.record.proofs.block.Goals as goal

inside : (c : goal.After-struct_known-1) → c.block_bounds-b.result.start + c.block_bounds-b.result.len ≤ length c.args.s.now
inside c = rw c.block_bounds-b.ensures (block_inside _ _)

pub overflow_add-end : goal.overflow_add-end
overflow_add-end c = omega (arith, inside c)

pub slice_bounds-result-end : goal.slice_bounds-result-end
slice_bounds-result-end c = inside c

pub returns : goal.returns
returns c =
    let b = c.block_bounds-b.result in
    let e : b.start + b.len - b.start ≡ b.len = omega arith in
    rw e (ap (λ (x : Stretch). bytes_in x c.args.s.now) c.block_bounds-b.ensures)
