-- What `refuse` leaves is the value of a refusal; and no two answers, and no two outputs, are those of one value: so no two can meet a promise that is stated by `Gives`.
use mathlib.Core.Path.{◌≡◌, sym, ◌∙◌}
use mathlib.Core.List.{List}
use Prim.Native.Nat.{ℕ}
use Rattle.std.specs.Prelude.{Result, Ok, Err}
use Rattle.modes.specs.declared.Refusal.{Refusal}
use Rattle.modes.specs.declared.Written.{Written}
use Rattle.lent.specs.Bytes.{zeros}
use Rattle.lent.specs.Outputs.{Output, Gives, refused_output}

-- a refusal, and an output of zeros
pub refused_gives : (room : ℕ) {f : Refusal} {r : Result Written Refusal} {after : List ℕ} → (r ≡ Err f) × (after ≡ zeros room) → Gives (refused_output room f) r after
refused_gives room e = record { answer = e.0; bytes = e.1 }

pub gives_one : {o : Output} {r s : Result Written Refusal} {x y : List ℕ} → Gives o r x → Gives o s y → (r ≡ s) × (x ≡ y)
gives_one g h = (g.answer ∙ sym h.answer, g.bytes ∙ sym h.bytes)

-- the same of what was written, where neither is refused
written_same : {r s : Written} → ◌≡◌ {A = Result Written Refusal} (Ok r) (Ok s) → r ≡ s
written_same e = cc

pub written_one : {o : Output} {r s : Written} {x y : List ℕ} → Gives o (Ok r) x → Gives o (Ok s) y → (r ≡ s) × (x ≡ y)
written_one g h = (written_same (g.answer ∙ sym h.answer), g.bytes ∙ sym h.bytes)
