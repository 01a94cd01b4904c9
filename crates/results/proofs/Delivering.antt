-- The joined rows weighed, put to their places and delivered.
use mathlib.Core.Path.{◌≡◌, sym, ap, ap₂, ◌∙◌}
use mathlib.Core.List.{List, [], ◌∷◌, ◌++◌}
use Prim.Native.Nat.{ℕ, ◌+◌, ◌-◌, ◌*◌, ◌≤◌, ◌<◌}
use native.Mathlib.Nat.{zero-add}
use native.Mathlib.Omega.{arith}
use lib.ListN.{length, take, set}
use lib.IntN.{nat_abs}
use Rattle.modes.specs.declared.Term.{Term}
use Rattle.modes.specs.Answers.{Verdict}
use Rattle.lent.specs.Rows.{row_at, rows_at}
use Rattle.lent.proofs.RowLaws.{rows_more, rows_next, length_rows_at}
use Rattle.record.specs.Terms.{weight}
use Rattle.record.specs.Weights.{heavier_by}
use Rattle.record.specs.Layout.{terms_in}
use Rattle.record.proofs.Checking.{weight_front}
use Rattle.record.proofs.Columns.{terms_more, terms_all}
use Rattle.record.proofs.Weights.{Weighs, weighs_start, weighs_more}
use Rattle.results.specs.Results.{result_refusal}
use Rattle.results.specs.Tallies.{Tallied}
use Rattle.results.specs.declared.Tally.{Tally}
use Rattle.results.proofs.Results.{verdict_same}

-- ---- weighed one by one: w so far, the rows from the i-th on to come

abbrev pub Weighing : List ℕ → ℕ → ℕ → ℕ → Type 0
Weighing l n w i = Weighs w (weight (rows_at l (24 * i) (n - i))) (weight (rows_at l 0 n))

pub weighing_starts : (l : List ℕ) (n : ℕ) → Weighing l n 0 0
weighing_starts l n = let e : n - 0 ≡ n = omega arith in rw e (weighs_start (weight (rows_at l 0 n)))

pub weighing_goes : (l : List ℕ) (n w i k v : ℕ) (t : Term) → Weighing l n w i → i < n → t ≡ row_at l (24 * i) → k ≡ nat_abs t.coeff
    → v ≡ heavier_by k w → Weighing l n v (i + 1)
weighing_goes l n w i k v t g h et ek ev =
    let front : weight (rows_at l (24 * i) (n - i)) ≡ k + weight (rows_at l (24 * (i + 1)) (n - (i + 1))) =
    weight_front _ _ (row_at l (24 * i)) (rows_next l i n h) ∙ ap (λ (x : ℕ). x + weight (rows_at l (24 * (i + 1)) (n - (i + 1))))
    (sym (ek ∙ ap (λ (x : Term). nat_abs x.coeff) et)) in
    rw ev (weighs_more w k _ _ (rw front at g))

pub weighing_ends : (l : List ℕ) (n w i : ℕ) → Weighing l n w i → n ≤ i → Tallied (rows_at l 0 n) (record { terms = n; weight = w })
unfolding rows_at weight
weighing_ends l n w i g h =
    let spent : n - i ≡ 0 = omega arith in
    let none : weight (rows_at l (24 * i) (n - i)) ≡ 0 = ap (λ (k : ℕ). weight (rows_at l (24 * i) k)) spent in
    record { terms = sym (length_rows_at l 0 n); light = λ q. omega (arith, g.exact q, none); heavy = λ q. g.over q }

-- ---- put to their places one by one: i of them stand there

abbrev pub Placing : List ℕ → ℕ → ℕ → List ℕ → Type 0
Placing l n i out = take i (terms_in out n) ≡ rows_at l 0 i

module _ (l : List ℕ) (n i : ℕ) (out : List ℕ) (g : Placing l n i out) where
  pub placing_goes : i < n → (t : Term) → t ≡ row_at l (24 * i) → (next : List ℕ) → terms_in next n ≡ set (terms_in out n) i t → Placing l n (i + 1) next
  placing_goes h t et next e =
      terms_more out next n i t h e ∙ ap₂ (λ (ts : List Term) (u : Term). ts ++ (u ∷ [])) g (et ∙ ap (row_at l) (sym (zero-add (24 * i)))) ∙ sym (rows_more l 0 i)

  pub placing_ends : i ≤ n → n ≤ i → terms_in out n ≡ rows_at l 0 n
  placing_ends h k = let all : i ≡ n = omega arith in sym (terms_all out n i k) ∙ g ∙ ap (rows_at l 0) all

-- 10, 9 and 11 by what was weighed as far as the ceiling
pub verdict_is : (room : ℕ) (l : List ℕ) (n : ℕ) (t : Tally) → Tallied (rows_at l 0 n) t → (late : Verdict) → late ≡ result_refusal room n t.weight
    → late ≡ result_refusal room (length (rows_at l 0 n)) (weight (rows_at l 0 n))
verdict_is room l n t g late e =
    e ∙ ap (λ (k : ℕ). result_refusal room k t.weight) (sym (length_rows_at l 0 n) ∙ sym g.terms) ∙ verdict_same room (rows_at l 0 n) t g
