use Prim.Native.Nat.{◌-◌}
use lib.ListN.{length}
use Rattle.expand.proofs.+put_rows.Given as goal

abbrev pub decreases-put_rows : goal.decreases-put_rows
decreases-put_rows l = length l.line.now - l.at
