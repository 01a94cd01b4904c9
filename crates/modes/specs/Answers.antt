-- What calls come back with: a refusal, by reason, operand and place, or none; and what was written to an output, by length and branches.
use Rattle.std.specs.Prelude.{ℕ, Result, Ok, Err}
use Rattle.modes.specs.declared.Reason.{Reason}
use Rattle.modes.specs.declared.Reason.TheVariants.{ModesDiffer, RowsDoNotFit, ProductTooHeavy, ResultTooHeavy, TooManyTerms, OutputTooShort}
use Rattle.modes.specs.declared.Refusal.{Refusal}
use Rattle.modes.specs.declared.Written.{Written}
use Rattle.modes.specs.Reasons.{number_of}

abbrev pub refusal : Reason → ℕ → ℕ → Refusal
refusal reason operand place = record { reason = reason; operand = operand; place = place }

-- whether something is refused, and by what
abbrev pub Verdict : Type 0
Verdict = Result (Unit {0}) Refusal

-- not refused
abbrev pub none : Verdict
none = Ok tt

-- the refusals that blame no operand: their operand and place are 0
abbrev pub modes_differ : Refusal
modes_differ = refusal ModesDiffer 0 0

abbrev pub rows_do_not_fit : Refusal
rows_do_not_fit = refusal RowsDoNotFit 0 0

abbrev pub product_too_heavy : Refusal
product_too_heavy = refusal ProductTooHeavy 0 0

abbrev pub result_too_heavy : Refusal
result_too_heavy = refusal ResultTooHeavy 0 0

abbrev pub too_many_terms : Refusal
too_many_terms = refusal TooManyTerms 0 0

abbrev pub output_too_short : Refusal
output_too_short = refusal OutputTooShort 0 0

abbrev pub wrote : ℕ → ℕ → Written
wrote len branches = record { len = len; branches = branches }

-- an answer as three numbers: those of its refusal, or 0 where it is not refused
abbrev pub number_in : {A : Type 0} → Result A Refusal → ℕ
number_in (Ok x) = 0
number_in (Err r) = number_of r.reason

abbrev pub operand_in : {A : Type 0} → Result A Refusal → ℕ
operand_in (Ok x) = 0
operand_in (Err r) = r.operand

abbrev pub place_in : {A : Type 0} → Result A Refusal → ℕ
place_in (Ok x) = 0
place_in (Err r) = r.place
