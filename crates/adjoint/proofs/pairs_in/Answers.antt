-- `adjoint::pairs_in` meets its contract.
use Rattle.adjoint.proofs.Pairs.{pairs_found, pairs_none}
use Rattle.adjoint.proofs.pairs_in.Goals as goal

pub returns-then-n-eq0 : goal.returns-then-n-eq0
returns-then-n-eq0 c = pairs_none _ c.ranges.word.fits c.if-n-eq0.true

pub returns : goal.returns
returns c = pairs_found _ c.ranges.word.fits
