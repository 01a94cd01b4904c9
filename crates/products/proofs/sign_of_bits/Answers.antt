-- `products::sign_of_bits` meets its contract: the machine's count has the parity of the modes.
use mathlib.Core.Path.{ap, ◌∙◌}
use Rattle.modes.specs.Words.{bit}
use Rattle.modes.specs.Counts.{parity}
use Rattle.modes.proofs.Counts.{count_odd, ones_word}
use Rattle.products.proofs.sign_of_bits.Goals as goal

pub returns : goal.returns
returns c =
    c.from_exchanges.ensures ∙ ap parity (ones_word c.args.word c.ranges.word.fits) ∙ count_odd 64 (bit c.args.word)
