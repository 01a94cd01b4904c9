-- A line's rows act, as a sum, as its ladders one by one: on every outcome, and so on every word.
use mathlib.Core.Path.{◌≡◌, refl, sym, ap, ◌∙◌}
use mathlib.Core.Bool.{Bool, true, false, cond}
use mathlib.Core.List.{List, [], ◌∷◌}
use Prim.Native.Nat.{ℕ, ◌^◌, ◌<◌}
use lib.Dec.{eqb, lit<}
use lib.Bits.{bit_xor}
use lib.IntN.{ℤ, pos, ◌+ℤ◌, +ℤ_idl, +ℤ_idr}
use Rattle.modes.specs.Bools.{◌⊕◌}
use Rattle.modes.specs.Sums.{sum_by, sum_of, list_of}
use Rattle.modes.specs.Every.{Every}
use Rattle.modes.specs.declared.Term.{Term}
use Rattle.modes.proofs.Bools.{false_⊕}
use Rattle.modes.proofs.Sums.{Respects, sum_through, sum_respects}
use Rattle.modes.proofs.Every.{every_implies, sum_same}
use Rattle.products.specs.PhaseRule.{Outcome, gone, went, term}
use Rattle.products.specs.Operators.{signed, adds, part, element}
use Rattle.products.specs.Product.{sign_of, rows_times}
use Rattle.products.proofs.ClosedForm.{acts, term_is, term_gone, term_none}
use Rattle.products.proofs.Signs.{signed_zero, signed_add, signed_signed, where_signed}
use Rattle.products.proofs.ProductActs.{product_acts}
use Rattle.products.proofs.ProductTheorems.{rows_within}
use Rattle.lines.specs.Grammar.{Ladder, Line}
use Rattle.lines.specs.Refusals.{all_below}
use Rattle.expand.specs.Rows.{creation, annihilation, rows_with, rows_after, plain, rows_of}
use Rattle.expand.specs.Meaning.{ladders_on, line_adds, lines_element}
use Rattle.expand.proofs.Ladders.{first_below, later_below, ladder_term, creation_small, annihilation_small}

-- what one term adds at the bra where it acts on an outcome
abbrev pub part_on : ℕ → Outcome → Term → ℤ
part_on bra o t = adds bra t.coeff (term t.cre t.ann o)

-- ---- a sign goes through terms

module _ (bra : ℕ) (z : ℤ) where
  -- through one term
  sign_out : (c a w : ℕ) (s : Bool) → c < 2 ^ 64 → a < 2 ^ 64 → adds bra z (term c a (went w s)) ≡ signed s (adds bra z (term c a (went w false)))
  sign_out c a w s hc ha =
      ap (adds bra z) (term_is c a w s hc ha) ∙ go (acts c a w) ∙ sym (ap (λ (o : Outcome). signed s (adds bra z o)) (term_is c a w false hc ha))
    where
      word : ℕ
      word = bit_xor (bit_xor w a) c

      there : (r : Bool) → cond (eqb word bra) (signed (s ⊕ r) z) (pos 0) ≡ signed s (cond (eqb word bra) (signed (false ⊕ r) z) (pos 0))
      there r =
          ap (λ (x : ℤ). cond (eqb word bra) x (pos 0)) (sym (signed_signed s r z) ∙ ap (λ (b : Bool). signed s (signed b z)) (sym (false_⊕ r)))
          ∙ where_signed (eqb word bra) s (signed (false ⊕ r) z)

      go : (b : Bool) → adds bra z (cond b (went word (s ⊕ sign_of c a w)) gone) ≡ signed s (adds bra z (cond b (went word (false ⊕ sign_of c a w)) gone))
      go true = there (sign_of c a w)
      go false = sym (signed_zero s)

  -- through two
  signs_out : (c a d b w : ℕ) (s : Bool) → c < 2 ^ 64 → a < 2 ^ 64 → d < 2 ^ 64 → b < 2 ^ 64
      → adds bra z (term c a (term d b (went w s))) ≡ signed s (adds bra z (term c a (term d b (went w false))))
  signs_out c a d b w s hc ha hd hb =
      ap (λ (o : Outcome). adds bra z (term c a o)) (term_is d b w s hd hb) ∙ go (acts d b w)
      ∙ sym (ap (λ (o : Outcome). signed s (adds bra z (term c a o))) (term_is d b w false hd hb))
    where
      word : ℕ
      word = bit_xor (bit_xor w b) d

      there : (r : Bool) → adds bra z (term c a (went word (s ⊕ r))) ≡ signed s (adds bra z (term c a (went word (false ⊕ r))))
      there r =
          let plain = adds bra z (term c a (went word false)) in
          sign_out c a word (s ⊕ r) hc ha ∙ sym (signed_signed s r plain)
          ∙ ap (signed s) (sym (sign_out c a word (false ⊕ r) hc ha ∙ ap (λ (x : Bool). signed x plain) (false_⊕ r)))

      go : (x : Bool) → adds bra z (term c a (cond x (went word (s ⊕ sign_of d b w)) gone))
          ≡ signed s (adds bra z (term c a (cond x (went word (false ⊕ sign_of d b w)) gone)))
      go true = there (sign_of d b w)
      go false = rw (term_gone c a) (sym (signed_zero s))

signed_respects : (s : Bool) → Respects ◌+ℤ◌ (pos 0) ◌+ℤ◌ (pos 0) (signed s)
signed_respects s = record { none = signed_zero s; add = signed_add s }

signed_sum : (s : Bool) (f : Term → ℤ) (ts : List Term) → signed s (sum_of f ts) ≡ sum_of (λ t. signed s (f t)) ts
unfolding sum_of
signed_sum s = sum_through (signed_respects s)

nothing_added : (bra : ℕ) (ts : List Term) → sum_of (part_on bra gone) ts ≡ pos 0
unfolding sum_of sum_by
nothing_added bra [] = refl
nothing_added bra (t ∷ ts) = rw (term_gone t.cre t.ann) (+ℤ_idl _ ∙ nothing_added bra ts)

-- ---- one product, on every outcome

module _ (Lc La Rc Ra : ℕ) (hLc : Lc < 2 ^ 64) (hLa : La < 2 ^ 64) (hRc : Rc < 2 ^ 64) (hRa : Ra < 2 ^ 64) (bra : ℕ) (z : ℤ) where
  product_acts_on : (o : Outcome) → sum_of (part_on bra o) (rows_times Lc La Rc Ra z) ≡ adds bra z (term Lc La (term Rc Ra o))
  product_acts_on gone = nothing_added bra (rows_times Lc La Rc Ra z) ∙ sym (rw (term_gone Rc Ra, term_gone Lc La))
  product_acts_on (went w s) =
      sum_same (part_on bra (went w s)) (λ r. signed s (part bra w r)) (rows_times Lc La Rc Ra z)
      (every_implies (rows_times Lc La Rc Ra z) (λ r h. sign_out bra r.coeff r.cre r.ann w s h.1 h.0) (rows_within Lc La Rc Ra 64 hLc hLa hRc hRa z))
      ∙ sym (signed_sum s (part bra w) (rows_times Lc La Rc Ra z))
      ∙ ap (signed s) (product_acts Lc La Rc Ra hLc hLa hRc hRa bra w z)
      ∙ sym (signs_out bra z Lc La Rc Ra w s hLc hLa hRc hRa)

-- ---- a line

module _ (bra : ℕ) (o : Outcome) where
  -- THE LINE: the rows of a term and ladders add, on every outcome, what the term does after the ladders, the rightmost first
  pub rows_act : (t : Term) (xs : List Ladder) → t.cre < 2 ^ 64 → t.ann < 2 ^ 64 → all_below 64 xs ≡ true
      → sum_of (part_on bra o) (rows_after t xs) ≡ part_on bra (ladders_on xs o) t
  unfolding rows_after ladders_on sum_of sum_by
  rows_act t [] hc ha h = +ℤ_idr (part_on bra o t)
  rows_act t (x ∷ xs) hc ha h =
      let small : x.mode < 64 = first_below 64 x xs h in
      let rows = rows_with t x in
      sum_through (sum_respects (part_on bra o)) (λ u. rows_after u xs) rows
      ∙ sum_same _ (part_on bra (ladders_on xs o)) rows
      (every_implies rows (λ u k. rows_act u xs k.1 k.0 (later_below 64 x xs h))
      (rows_within t.cre t.ann (creation x) (annihilation x) 64 hc ha (creation_small 64 x small) (annihilation_small 64 x small) t.coeff))
      ∙ product_acts_on t.cre t.ann (creation x) (annihilation x) hc ha (creation_small 64 x small) (annihilation_small 64 x small) bra t.coeff (ladders_on xs o)
      ∙ ap (λ (p : Outcome). adds bra t.coeff (term t.cre t.ann p)) (ladder_term x (ladders_on xs o) small)

module _ (bra ket : ℕ) where
  -- a line's rows have its elements
  pub line_elements : (x : Line) → all_below 64 x.ladders ≡ true → element bra ket (rows_of x) ≡ line_adds bra ket x
  line_elements x h =
      rows_act bra (went ket false) (plain x.coeff) x.ladders (lit< tt) (lit< tt) h
      ∙ ap (adds bra x.coeff) (term_none (ladders_on x.ladders (went ket false)))

  -- and those of all lines theirs
  pub lines_elements : (xs : List Line) → Every (λ x. all_below 64 x.ladders ≡ true) xs → element bra ket (list_of rows_of xs) ≡ lines_element bra ket xs
  unfolding sum_of
  lines_elements xs h =
      sum_through (sum_respects (part bra ket)) rows_of xs ∙ sum_same _ (line_adds bra ket) xs (every_implies xs line_elements h)
