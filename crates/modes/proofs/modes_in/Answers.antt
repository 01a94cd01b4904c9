-- `modes::modes_in` meets its contract: the machine counts the digits of a word.
use mathlib.Core.Path.{◌≡◌, sym, ap, ◌∙◌}
use Prim.Native.Nat.{ℕ, ◌^◌, ◌<◌}
use native.Mathlib.Nat.{mod-eq_of_lt}
use native.Mathlib.Omega.{arith}
use lib.Count.{ones}
use Rattle.modes.specs.Words.{bit}
use Rattle.modes.specs.Counts.{count}
use Rattle.modes.proofs.Counts.{count_ones, count_le}
use Rattle.modes.proofs.modes_in.Goals as goal

counted : (w : ℕ) → w < 2 ^ 64 → ones w ≡ count 64 (bit w)
counted w h = ap ones (sym (mod-eq_of_lt h)) ∙ count_ones 64 w

pub overflow_cast-result : goal.overflow_cast-result
overflow_cast-result c = record { fits = omega (arith, counted _ c.ranges.word.fits, count_le 64 (bit c.args.word)) }

pub returns : goal.returns
returns c = (counted _ c.ranges.word.fits, omega (arith, counted _ c.ranges.word.fits, count_le 64 (bit c.args.word)))
