-- `decimals::put_digit` meets its contract.
use Prim.Native.Nat.{◌+◌}
use Rattle.decimals.proofs.Stores.{stored_one}
use Rattle.decimals.proofs.put_digit.Goals as goal

pub returns : goal.returns
returns c = stored_one c.args.s.now c.args.at (48 + c.args.digit) c.requires.0
