-- The phase rule: single ladder operators on occupation words, and terms. Every answer of this library is judged by this file.
use Rattle.std.specs.Prelude.{Bool, true, false, cond, ℕ, zero, suc, ◌^◌}
use Rattle.std.specs.Int.Bits.{bit_xor}
use Rattle.modes.specs.Bools.{◌⊕◌, same}
use Rattle.modes.specs.Words.{bit}
use Rattle.modes.specs.Counts.{odd}

-- What an operator makes of a word: nothing, the outcome Zero; or a word with a sign, true for minus.
pub data Outcome : Type 0 where
  gone : Outcome
  went : ℕ → Bool → Outcome

-- The occupation of its mode that a ladder operator needs: creating needs the mode empty, annihilating needs it occupied.
abbrev pub creating : Bool
creating = false

abbrev pub annihilating : Bool
annihilating = true

-- A single ladder on mode p: where p is not as needed the outcome is Zero; otherwise p changes, and the sign flips once for each occupied mode below p.
unfoldable pub ladder : Bool → ℕ → Outcome → Outcome
ladder needs p gone = gone
ladder needs p (went w s) = cond (same needs (bit w p)) (went (bit_xor w (2 ^ p)) (s ⊕ odd p (bit w))) gone

-- The ladders of a word's modes below k, in ascending mode order from left to right. The rightmost, that of the highest mode, acts first.
unfoldable pub ladders : Bool → ℕ → ℕ → Outcome → Outcome
ladders needs zero word o = o
ladders needs (suc p) word o = ladders needs p word (cond (bit word p) (ladder needs p o) o)

-- The term {cre|ann}: all creations in ascending order, then all annihilations in ascending order. The rightmost acts first.
unfoldable pub term : ℕ → ℕ → Outcome → Outcome
term cre ann o = ladders creating 64 cre (ladders annihilating 64 ann o)
