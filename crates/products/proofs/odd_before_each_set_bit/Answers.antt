-- `products::odd_before_each_set_bit` meets its contract: the exchange count's parity, mode by mode.
use mathlib.Core.Path.{◌≡◌, sym, ap, ◌∙◌}
use mathlib.Core.Bool.{Bool, ◌&&◌}
use Prim.Native.Nat.{ℕ, ◌<◌}
use lib.Bits.{bit_and}
use Rattle.modes.specs.Words.{bit}
use Rattle.modes.specs.Counts.{odd, odd_exchanges}
use Rattle.modes.proofs.Sets.{odd_cong}
use Rattle.modes.proofs.Digits.{bit_of_and}
use Rattle.modes.proofs.Before.{odd_exchanges_is}
use Rattle.products.proofs.odd_before_each_set_bit.Goals as goal

picked : (word at before : ℕ) → ((p : ℕ) → p < 64 → bit before p ≡ odd p (bit word)) → odd 64 (bit (bit_and at before)) ≡ odd_exchanges 64 (bit word) (bit at)
picked word at before h =
    odd_cong 64 (bit (bit_and at before)) (λ p. bit at p && odd p (bit word)) (λ p l. bit_of_and at before p ∙ ap (λ (b : Bool). bit at p && b) (h p l))
    ∙ sym (odd_exchanges_is 64 (bit word) (bit at))

pub returns : goal.returns
returns c = picked c.args.word c.args.at c.odd_before.result c.odd_before.ensures
