-- Calls that write a record to a lent output: 11, and the whole output.
use Rattle.std.specs.Prelude.{ℕ, List, leb}
use Rattle.modes.specs.declared.Term.{Term}
use Rattle.modes.specs.Answers.{Verdict, output_too_short}
use Rattle.modes.specs.Refusals.{need, unless}
use Rattle.lent.specs.Outputs.{Output, refused_output, filled_output}
use Rattle.record.specs.Layout.{record_length, encode}

-- 11 where a record of n terms is longer than the room
abbrev pub room_refusal : ℕ → ℕ → Verdict
room_refusal room n = need (leb (record_length n) room) output_too_short

-- the record of the terms ts on m modes, unless r refuses it
abbrev pub record_output : ℕ → ℕ → Verdict → ℕ → List Term → Output
record_output room branches r m ts = unless r (refused_output room) (filled_output room branches (encode m ts))
