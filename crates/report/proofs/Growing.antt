-- A share that grows, and the other numbers of the report, which stay.
use mathlib.Core.Path.{◌≡◌}
use mathlib.Core.List.{List}
use Prim.Native.Nat.{ℕ, ◌+◌, ◌<◌}
use native.Mathlib.Omega.{arith}
use lib.ListN.{get_or, set}
use lib.Seq.{get_or-set_other}
use Rattle.report.specs.Reports.{share_in}
use Rattle.report.specs.Steps.{Grown}

-- a share that lies wholly above the one that grew stays
pub share_above : (p n w : ℕ) (l k : List ℕ) → Grown p n w l k → (q : ℕ) → p + 2 < q → share_in k q ≡ share_in l q
share_above p n w l k g q h = rw (g.above q h, g.above (q + 1) (omega arith), g.above (q + 2) (omega arith))

-- a number that is stored below a share leaves the share
pub share_set : (l : List ℕ) (i x q : ℕ) → i < q → share_in (set l i x) q ≡ share_in l q
share_set l i x q h =
    let other : (j : ℕ) → i < j → get_or (set l i x) j 0 ≡ get_or l j 0 = λ j b. get_or-set_other l i j x 0 (λ e. absurd (omega arith)) in
    rw (other q h, other (q + 1) (omega arith), other (q + 2) (omega arith))
