-- No two answers, and no two outputs, meet a promise of the C face.
use mathlib.Core.Path.{◌≡◌, sym, ◌∙◌}
use mathlib.Core.List.{List}
use Prim.Native.Nat.{ℕ}
use lib.IntN.{ℤ}
use lib.Ieee.{Float}
use Rattle.lent.specs.Outputs.{Output}
use Rattle.record.specs.Operands.{Operand}
use Rattle.std.specs.Prelude.{Result}
use Rattle.modes.specs.declared.Refusal.{Refusal}
use Rattle.mat_elem.specs.declared.Row.{Row}
use Rattle.float_elem.specs.Answers.{Told}
use Rattle.shelf.specs.Requests.{Outcome}
use Rattle.fermion.specs.Face.{Fills, FillsClean, FillsFloat, FillsMatrix, FillsReport, FillsShelf}

-- once for every call that fills no output: its promise names the eight numbers
pub answer_one : {numbers answer answer' : List ℕ} → answer ≡ numbers → answer' ≡ numbers → answer ≡ answer'
answer_one g h = g ∙ sym h

-- once for every call that fills an output
pub fills_one : {o : Output} {out out' answer answer' : List ℕ} → Fills o out answer → Fills o out' answer' → (out ≡ out') × (answer ≡ answer')
fills_one g h = (g.bytes ∙ sym h.bytes, g.numbers ∙ sym h.numbers)

-- once for every call that is lent work too
pub fills_clean_one : {o : Output} {out out' answer answer' : List ℕ} {room : ℕ} {work work' : List ℕ} → FillsClean o out answer room work
    → FillsClean o out' answer' room work'
    → (out ≡ out') × (answer ≡ answer') × (work ≡ work')
fills_clean_one g h = let one = fills_one g.fills h.fills in (one.0, one.1, g.clean ∙ sym h.clean)

-- once for both float elements
pub fills_float_one : {t : Told} {value value' : List Float} {answer answer' : List ℕ} → FillsFloat t value answer → FillsFloat t value' answer'
    → (value ≡ value') × (answer ≡ answer')
fills_float_one g h = (g.floats ∙ sym h.floats, g.numbers ∙ sym h.numbers)

-- the call that fills a matrix
pub matrix_one : {p : Result (List Row) Refusal} {matrix matrix' : List ℤ} {answer answer' : List ℕ} → FillsMatrix p matrix answer → FillsMatrix p matrix' answer'
    → (matrix ≡ matrix') × (answer ≡ answer')
matrix_one g h = (g.entries ∙ sym h.entries, g.numbers ∙ sym h.numbers)

-- the call that changes a report
pub report_one : {l : List ℕ} {a : Operand} {report report' answer answer' : List ℕ} → FillsReport l a report answer → FillsReport l a report' answer'
    → (report ≡ report') × (answer ≡ answer')
report_one g h = (g.figures ∙ sym h.figures, g.numbers ∙ sym h.numbers)

-- once for every call on a shelf
pub shelf_one : {o : Outcome} {out out' shelf shelf' answer answer' : List ℕ} → FillsShelf o out shelf answer → FillsShelf o out' shelf' answer'
    → (out ≡ out') × (shelf ≡ shelf') × (answer ≡ answer')
shelf_one g h = (g.copied ∙ sym h.copied, g.shelved ∙ sym h.shelved, g.numbers ∙ sym h.numbers)
