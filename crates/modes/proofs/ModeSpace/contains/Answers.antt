-- `modes::ModeSpace::contains` meets its contract: at 64 modes or more every word of 64 bits is inside.
use mathlib.Core.Path.{sym, ap}
use Prim.Native.Nat.{◌^◌}
use native.Mathlib.Nat.{lt_of_lt_of_le}
use lib.Dec.{ltb}
use lib.Pow.{pow_mono}
use borrow.Author.Tests.{lt-ltb}
use Rattle.modes.proofs.Digits.{one_shifted}
use Rattle.modes.proofs.ModeSpace.contains.Goals as goal

pub returns-then-self-ge-MAX : goal.returns-then-self-ge-MAX
returns-then-self-ge-MAX c =
    sym (lt-ltb c.args.word (2 ^ c.args.self.count) (lt_of_lt_of_le c.ranges.word.fits (pow_mono c.if-self-ge-MAX.true)))

pub returns : goal.returns
returns c =
    let a = c.args in
    ap (ltb a.word) (one_shifted a.self.count c.if-self-ge-MAX.false)
