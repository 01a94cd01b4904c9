-- `record::count_up_to` meets its contract: every word is up to the largest.
use native.Mathlib.Omega.{arith}
use Rattle.record.proofs.Blocks.{count_every}
use Rattle.record.proofs.count_up_to.Goals as goal

pub returns-then-ann-eq18446744073709551615 : goal.returns-then-ann-eq18446744073709551615
returns-then-ann-eq18446744073709551615 c =
    count_every c.args.s.now c.args.n _ (λ k. (c.shared_slice_known-1.given k).fits) c.requires.0 (omega (arith, c.if-ann-eq18446744073709551615.true))

pub count_below-requires : goal.count_below-requires
count_below-requires c = rw c.of-terms.ensures c.requires.1

pub returns : goal.returns
returns c = rw c.of-terms.ensures at c.count_below.ensures
