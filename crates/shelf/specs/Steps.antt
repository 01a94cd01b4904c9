-- One step of a shelf: a call's answer, its output and the shelf after it.
use Rattle.std.specs.Prelude.{ℕ, ◌*◌, List, [], eqb, ltb, length, take, drop, Ok}
use Rattle.modes.specs.Answers.{Verdict}
use Rattle.modes.specs.Refusals.{need, or_else, unless}
use Rattle.lent.specs.Bytes.{zeros, put}
use Rattle.shelf.specs.Requests.{Request, Done, Outcome, no_such_party, damaged_half, unchanged, on_half, room_of}

-- a call is a clear, which is no party's, or what a party asks for
pub data Call : Type 0 where
  Clear : Call
  By : ℕ → Request → Call

-- party p's half
unfoldable pub half_of : ℕ → List ℕ → List ℕ
half_of p s = take 32768 (drop (32768 * p) s)

-- 18, then 19 of a shelf that has not 65,536 bytes
unfoldable pub shelf_refusal : ℕ → ℕ → Verdict
shelf_refusal p size = or_else (need (ltb p 2) no_such_party) (need (eqb size 65536) damaged_half)

-- what the half of party p gives, the other half as it was
abbrev pub in_shelf : ℕ → List ℕ → Outcome → Outcome
in_shelf p s o = record { answer = o.answer; output = o.output; bytes = put s (32768 * p) o.bytes }

-- the outcome of a call on the shelf s
unfoldable pub step : Call → List ℕ → Outcome
step Clear s = record { answer = Ok Done; output = []; bytes = zeros (length s) }
step (By p q) s = unless (shelf_refusal p (length s)) (unchanged (room_of q) s) (in_shelf p s (on_half q (half_of p s)))
