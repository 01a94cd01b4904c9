-- What a call that fills a lent output of `room` bytes answers, and the whole output at its end, as one value.
use Rattle.std.specs.Prelude.{◌≡◌, List, ◌++◌, ℕ, ◌-◌, length, Result, Ok, Err}
use Rattle.modes.specs.declared.Refusal.{Refusal}
use Rattle.modes.specs.declared.Written.{Written}
use Rattle.modes.specs.Answers.{wrote}
use Rattle.lent.specs.Bytes.{zeros}

pub record Output : Type 0 where
  pub answer : Result Written Refusal
  pub bytes : List ℕ

-- a refusal leaves the output all zero
abbrev pub refused_output : ℕ → Refusal → Output
refused_output room r = record { answer = Err r; bytes = zeros room }

-- the bytes bs, and zeros past them
abbrev pub filled_output : ℕ → ℕ → List ℕ → Output
filled_output room branches bs = record { answer = Ok (wrote (length bs) branches); bytes = bs ++ zeros (room - length bs) }

-- the answer r and the output after are those of the value
pub record Gives (o : Output) (r : Result Written Refusal) (after : List ℕ) : Type 0 where
  pub answer : r ≡ o.answer
  pub bytes : after ≡ o.bytes
