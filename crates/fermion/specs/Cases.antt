-- The numbered cases as one list: what the library's definitions answer on small inputs. In braces, {creations|annihilations}.
use Rattle.std.specs.Prelude.{◌≡◌, true, false, List, [], ◌∷◌, ℕ, ◌-◌, ◌^◌, ℤ, pos, negsuc}
use Rattle.record.specs.Operands.{read_as}
use Rattle.modes.specs.declared.Term.{Term}
use Rattle.modes.specs.Answers.{rows_do_not_fit, output_too_short}
use Rattle.lent.specs.Outputs.{Output, refused_output, filled_output}
use Rattle.products.specs.Apply.{applied}
use Rattle.products.specs.Operators.{element}
use Rattle.products.specs.Product.{rows_times}
use Rattle.products.specs.declared.Blocked.TheVariants.{Missing, Occupied}
use Rattle.products.specs.declared.ApplyResult.{ApplyResult}
use Rattle.products.specs.declared.ApplyResult.TheVariants.{Applied, Zero}
use Rattle.record.specs.Example.{example}
use Rattle.record.specs.Layout.{encode, terms_of}
use Rattle.multiply.specs.Answers.{commutator_of}

abbrev plus : ℕ → ApplyResult
plus w = Applied w (record { 0 = false })

abbrev minus : ℕ → ApplyResult
minus w = Applied w (record { 0 = true })

-- a row with its coefficient, 1 or -1
abbrev row : ℕ → ℕ → ℤ → Term
row cre ann z = record { cre = cre; ann = ann; coeff = z }

abbrev one : ℤ
one = pos 1

abbrev minus_one : ℤ
minus_one = negsuc 0

-- one term with coefficient 1 on two modes
abbrev record_of : ℕ → ℕ → List ℕ
record_of cre ann = encode 2 (row cre ann one ∷ [])

pub data Case : Type 0 where
  -- {l-cre|l-ann} times {r-cre|r-ann} has these rows, in this order
  product : (l_cre l_ann r_cre r_ann : ℕ) → List Term → Case
  -- {cre|ann} on a ket gives this
  gives : (cre ann ket : ℕ) → ApplyResult → Case
  -- {cre|ann} on any ket gives that ket, plus
  keeps : (cre ann : ℕ) → Case
  -- the commutator of two records, for a work and an output of these lengths, answers and leaves this
  commutes : (a b : List ℕ) (work room : ℕ) → Output → Case
  -- a record's element at (bra, ket)
  element_is : (l : List ℕ) (bra ket : ℕ) → ℤ → Case

abbrev pub Holds : Case → Type 0
Holds (product l_cre l_ann r_cre r_ann rows) = rows_times l_cre l_ann r_cre r_ann (pos 1) ≡ rows
Holds (gives cre ann ket r) = applied cre ann ket ≡ r
Holds (keeps cre ann) = (ket : ℕ) → applied cre ann ket ≡ plus ket
Holds (commutes a b work room o) = commutator_of work room (read_as 1 a) (read_as 2 b) ≡ o
Holds (element_is l bra ket z) = element bra ket (terms_of l) ≡ z

-- a case with its number
pub record Numbered : Type 0 where
  pub number : ℕ
  pub case : Case

infix 20 ◌▸◌
abbrev ◌▸◌ : ℕ → Case → Numbered
n ▸ c = record { number = n; case = c }

abbrev pub cases : List Numbered
cases =
    (1 ▸ product 1 0 1 0 [])
    ∷ (2 ▸ product 1 1 1 1 (row 1 1 one ∷ []))
    ∷ (3 ▸ product 0 1 1 0 (row 0 0 one ∷ row 1 1 minus_one ∷ []))
    ∷ (4 ▸ product 0 1 2 0 (row 2 1 minus_one ∷ []))
    ∷ (5 ▸ product 0 1 2 4 (row 2 5 minus_one ∷ []))
    ∷ (6 ▸ product 1 4 2 0 (row 3 4 minus_one ∷ []))
    ∷ (7 ▸ product 2 0 1 0 (row 3 0 minus_one ∷ []))
    ∷ (8 ▸ product 0 3 3 0 (row 0 0 minus_one ∷ row 2 2 one ∷ row 1 1 one ∷ row 3 3 one ∷ []))
    ∷ (9 ▸ keeps 0 0)
    ∷ (10 ▸ gives 4 1 3 (minus 6))
    ∷ (11 ▸ gives 0 4 3 (Zero (Missing 2)))
    ∷ (11 ▸ gives 1 0 1 (Zero (Occupied 0)))
    ∷ (11 ▸ gives 1 1 1 (plus 1))
    ∷ (12 ▸ gives (2 ^ 63) 0 (2 ^ 63 - 1) (minus (2 ^ 64 - 1)))
    ∷ (13 ▸ gives 0 3 3 (minus 0))
    ∷ (13 ▸ gives 3 0 0 (plus 3))
    ∷ (14 ▸ commutes (record_of 1 2) (record_of 2 1) 96 80 (filled_output 80 4 example))
    ∷ (14 ▸ element_is example 1 1 one)
    ∷ (14 ▸ element_is example 2 2 minus_one)
    ∷ (14 ▸ element_is example 3 3 (pos 0))
    ∷ (14 ▸ commutes (record_of 1 2) (record_of 2 1) 95 80 (refused_output 80 rows_do_not_fit))
    ∷ (14 ▸ commutes (record_of 1 2) (record_of 2 1) 96 79 (refused_output 79 output_too_short))
    ∷ []

abbrev pub AllHold : List Numbered → Type 0
AllHold [] = Unit {0}
AllHold (c ∷ l) = Holds c.case × AllHold l
