-- An operand as a call reads it: what refuses it, its modes and its terms. Answers are said of these, not of bytes.
use Rattle.std.specs.Prelude.{ℕ, List}
use Rattle.modes.specs.declared.Term.{Term}
use Rattle.modes.specs.Answers.{Verdict}
use Rattle.record.specs.Layout.{modes_of, terms_of}
use Rattle.record.specs.Refusals.{refusal_of}

pub record Operand : Type 0 where
  pub refusal : Verdict
  pub modes : ℕ
  pub terms : List Term

-- the bytes l, given as the operand with the number o
abbrev pub read_as : ℕ → List ℕ → Operand
read_as o l = record { refusal = refusal_of o l; modes = modes_of l; terms = terms_of l }
