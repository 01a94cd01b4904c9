-- `decimals::starts_well` meets its contract.
use Rattle.decimals.proofs.Numbers.{starts_short, starts_long}
use Rattle.decimals.proofs.starts_well.Goals as goal

pub returns-then-s-lt2 : goal.returns-then-s-lt2
returns-then-s-lt2 c = starts_short c.args.s.now c.if-s-lt2.true

pub returns : goal.returns
returns c = starts_long c.args.s.now c.if-s-lt2.false
