-- `report::ranks_within` meets its contract. The invariant: whether the shares so far are within their limits.
use mathlib.Core.Path.{◌≡◌}
use native.Mathlib.Omega.{arith}
use Rattle.report.proofs.ranks_within.Goals as goal

pub returns : goal.returns
returns c = let end : c.loop-r.r ≡ 65 = omega arith in rw end at c.loop-r.invariant
