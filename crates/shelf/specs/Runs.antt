-- Calls in turn on one shelf, what a party sees of them, and which calls leave a slot alone.
use Rattle.std.specs.Prelude.{◌≡◌, ℕ, Bool, true, false, cond, ◌&&◌, not, List, [], ◌∷◌, eqb, length, Result}
use Rattle.tally.specs.Ranks.{chosen}
use Rattle.slots.specs.Half.{is_whole}
use Rattle.modes.specs.declared.Refusal.{Refusal}
use Rattle.shelf.specs.Requests.{Put, Get, Drop, Shelved, Outcome}
use Rattle.shelf.specs.Steps.{Call, Clear, By, half_of, step}

-- the outcome of each call, and the shelf after all of them
unfoldable pub run : List ℕ → List Call → List Outcome
run s [] = []
run s (c ∷ cs) = let o = step c s in o ∷ run o.bytes cs

unfoldable pub after_all : List ℕ → List Call → List ℕ
after_all s [] = s
after_all s (c ∷ cs) = let o = step c s in after_all o.bytes cs

-- a clear, or a call of party p
abbrev pub concerns : ℕ → Call → Bool
concerns p Clear = true
concerns p (By q r) = eqb q p

-- the calls without those of the other party
abbrev pub own_calls : ℕ → List Call → List Call
own_calls p = chosen (concerns p)

-- what party p sees of a call: the answer, the output and its half after it
pub record Seen : Type 0 where
  pub answer : Result Shelved Refusal
  pub output : List ℕ
  pub half : List ℕ

abbrev pub seen_by : ℕ → Outcome → Seen
seen_by p o = record { answer = o.answer; output = o.output; half = half_of p o.bytes }

-- and of a run: of its own calls and of clears, one after the other
unfoldable pub seen : ℕ → List ℕ → List Call → List Seen
seen p s [] = []
seen p s (c ∷ cs) =
    let o = step c s in
    let later = seen p o.bytes cs in
    cond (concerns p c) (seen_by p o ∷ later) later

-- a shelf of 65,536 bytes with no damage in either half
pub record Whole (s : List ℕ) : Type 0 where
  pub size : length s ≡ 65536
  pub lower : is_whole (half_of 0 s) ≡ true
  pub upper : is_whole (half_of 1 s) ≡ true

-- neither a clear nor party p's drop of slot i
abbrev pub spares : ℕ → ℕ → Call → Bool
spares p i Clear = false
spares p i (By q (Put a)) = true
spares p i (By q (Get j room)) = true
spares p i (By q (Drop j)) = not (eqb q p && eqb j i)
