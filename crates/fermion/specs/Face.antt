-- The eight numbers of an answer at the C face: the refusal's number, operand and place, the length, the branches or rows, and the call's own three values.
use Rattle.std.specs.Prelude.{◌≡◌, cond, List, [], ◌∷◌, ◌++◌, ℕ, take, replicate, Float, ℤ, pos, Bool, Option, Some, None, Result, Ok, Err}
use Rattle.std.specs.Int.{w64}
use Rattle.std.proofs.Common.{of_z}
use Rattle.modes.specs.Answers.{Verdict, none, number_in, operand_in, place_in}
use Rattle.modes.specs.Reasons.{number_of}
use Rattle.modes.specs.declared.Refusal.{Refusal}
use Rattle.modes.specs.declared.Written.{Written}
use Rattle.lent.specs.Bytes.{zeros}
use Rattle.lent.specs.Outputs.{Output}
use Rattle.products.specs.declared.Blocked.TheVariants.{Missing, Occupied}
use Rattle.products.specs.declared.ApplyResult.{ApplyResult}
use Rattle.products.specs.declared.ApplyResult.TheVariants.{Applied, Zero}
use Rattle.record.specs.declared.Checked.{Checked}
use Rattle.record.specs.declared.Stretch.{Stretch}
use Rattle.record.specs.Operands.{Operand}
use Rattle.report.specs.Reports.{report_after, counted_of}
use Rattle.float_elem.specs.Sums.{plus_zero}
use Rattle.float_elem.specs.Answers.{Told, values_in}
use Rattle.mat_elem.specs.declared.Row.{Row}
use Rattle.compare.specs.declared.Difference.{Difference}
use Rattle.branches.specs.declared.BranchCounts.{BranchCounts}
use Rattle.shelf.specs.Requests.{Shelved, Slot, Length, Done, Outcome}

-- the five numbers past the refusal: those of the value, all 0 beside a refusal
abbrev pub five_in : {A : Type 0} → (A → List ℕ) → Result A Refusal → List ℕ
five_in five (Ok x) = five x
five_in five (Err r) = 0 ∷ 0 ∷ 0 ∷ 0 ∷ 0 ∷ []

-- the answer of a call: the three numbers of its refusal, and five of its value
abbrev pub answered : {A : Type 0} → (A → List ℕ) → Result A Refusal → List ℕ
answered five r = number_in r ∷ operand_in r ∷ place_in r ∷ five_in five r

-- the five of a call that fills no output: its own three values
abbrev pub own : ℕ → ℕ → ℕ → List ℕ
own x y z = 0 ∷ 0 ∷ x ∷ y ∷ z ∷ []

abbrev pub values : ℕ → ℕ → ℕ → List ℕ
values x y z = answered (λ _. own x y z) none

-- applied: 1, the new word, and 1 where the sign is minus; Zero: 0, then 1 and the mode that is missing, or 2 and the one still occupied
abbrev pub apply_answer : ApplyResult → List ℕ
apply_answer (Applied w s) = values 1 w (cond s.0 1 0)
apply_answer (Zero (Missing p)) = values 0 1 p
apply_answer (Zero (Occupied p)) = values 0 2 p

-- the check: modes, terms and weight
abbrev pub checked_five : Checked → List ℕ
checked_five c = own c.modes c.terms c.weight

abbrev pub checked_answer : Result Checked Refusal → List ℕ
checked_answer = answered checked_five

-- a test: 1 where it holds
abbrev pub tested_answer : Result Bool Refusal → List ℕ
tested_answer = answered (λ holds. own (cond holds 1 0) 0 0)

-- a number found
abbrev pub measured_answer : Result ℕ Refusal → List ℕ
measured_answer = answered (λ n. own n 0 0)

-- a stretch of the record's bytes: its offset and its length. This call gives no refusal.
abbrev pub stretch_answer : Stretch → List ℕ
stretch_answer s = values s.start s.len 0

-- an exact element, the 64 bits of the signed number
abbrev pub element_answer : Result ℤ Refusal → List ℕ
element_answer = answered (λ z. own (of_z w64 z) 0 0)

-- a call that fills an output: the length and the branches
abbrev pub written_five : Written → List ℕ
written_five w = w.len ∷ w.branches ∷ 0 ∷ 0 ∷ 0 ∷ []

abbrev pub written_answer : Result Written Refusal → List ℕ
written_answer = answered written_five

-- the output and the answer at the end are those of the value
pub record Fills (o : Output) (out answer : List ℕ) : Type 0 where
  pub bytes : out ≡ o.bytes
  pub numbers : answer ≡ written_answer o.answer

-- and the work, of room bytes, is all zero
pub record FillsClean (o : Output) (out answer : List ℕ) (room : ℕ) (work : List ℕ) : Type 0 where
  pub fills : Fills o out answer
  pub clean : work ≡ zeros room

-- a float element: its values, re and im, with plus zero in the place of those that it has not; and its refusal
abbrev pub float_values : Told → List Float
float_values t = take 2 (values_in t ++ plus_zero ∷ plus_zero ∷ [])

abbrev pub float_answer : Told → List ℕ
float_answer = answered (λ _. own 0 0 0)

-- the values and the answer at the end are those of the element
pub record FillsFloat (t : Told) (value : List Float) (answer : List ℕ) : Type 0 where
  pub floats : value ≡ float_values t
  pub numbers : answer ≡ float_answer t

-- a comparison: 1 where equal, else the bra and the ket that are named
abbrev pub compared_five : Option Difference → List ℕ
compared_five None = own 1 0 0
compared_five (Some d) = own 0 d.bra d.ket

abbrev pub compared_answer : Result (Option Difference) Refusal → List ℕ
compared_answer = answered compared_five

-- the branches of the products a b and b a
abbrev pub branches_five : BranchCounts → List ℕ
branches_five c = 0 ∷ c.forward ∷ c.backward ∷ 0 ∷ 0 ∷ []

abbrev pub branches_answer : Result BranchCounts Refusal → List ℕ
branches_answer = answered branches_five

-- a record counted into a report: 1 where it is accepted, else the number and the place of its own refusal
abbrev pub counted_five : Verdict → List ℕ
counted_five (Ok _) = own 1 0 0
counted_five (Err r) = own 0 (number_of r.reason) r.place

abbrev pub counted_answer : Result Verdict Refusal → List ℕ
counted_answer = answered counted_five

-- the report and the answer at the end are those of the record a counted into the report l
pub record FillsReport (l : List ℕ) (a : Operand) (report answer : List ℕ) : Type 0 where
  pub figures : report ≡ report_after l a
  pub numbers : answer ≡ counted_answer (counted_of l a)

-- the rows of a matrix one after the other
unfoldable pub in_rows : List Row → List ℤ
in_rows [] = []
in_rows (r ∷ rows) = r.entries ++ in_rows rows

-- the entries of a matrix, all 0 beside a refusal
abbrev pub entries_in : Result (List Row) Refusal → List ℤ
entries_in (Ok rows) = in_rows rows
entries_in (Err r) = replicate 64 (pos 0)

-- the matrix and the answer at the end are those of the value
pub record FillsMatrix (p : Result (List Row) Refusal) (matrix : List ℤ) (answer : List ℕ) : Type 0 where
  pub entries : matrix ≡ entries_in p
  pub numbers : answer ≡ answered (λ _. own 0 0 0) p

-- a call on a shelf: the length of the copy, for a get, and the slot, for a put
abbrev pub shelved_five : Shelved → List ℕ
shelved_five (Slot i) = own i 0 0
shelved_five (Length n) = n ∷ 0 ∷ 0 ∷ 0 ∷ 0 ∷ []
shelved_five Done = own 0 0 0

abbrev pub shelved_answer : Result Shelved Refusal → List ℕ
shelved_answer = answered shelved_five

-- the output, the shelf and the answer at the end are those of the outcome
pub record FillsShelf (o : Outcome) (out shelf answer : List ℕ) : Type 0 where
  pub copied : out ≡ o.output
  pub shelved : shelf ≡ o.bytes
  pub numbers : answer ≡ shelved_answer o.answer
