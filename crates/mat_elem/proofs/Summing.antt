-- A sum over the terms of a record, term by term: what is summed and what is left make the element, within the weight.
use mathlib.Core.Path.{◌≡◌, refl, sym, ap, ◌∙◌, subst}
use mathlib.Core.List.{List, [], ◌∷◌}
use Prim.Native.Nat.{ℕ, zero, suc, ◌+◌, ◌^◌, ◌≤◌, ◌<◌}
use native.Mathlib.Nat.{le_refl, zero-add}
use native.Mathlib.Omega.{arith}
use lib.Bits.{bit_xor}
use lib.IntN.{ℤ, pos, nat_abs, ◌+ℤ◌, +ℤ_idl, +ℤ_idr, +ℤ_assoc}
use lib.ListN.{drop}
use borrow.Author.Tests.{eq-eqb, ne_eqb}
use Rattle.modes.specs.Sums.{sum_of}
use Rattle.modes.specs.declared.Term.{Term}
use Rattle.products.specs.Operators.{adds, part, element}
use Rattle.products.specs.Apply.{applied}
use Rattle.products.specs.declared.Blocked.{Blocked}
use Rattle.products.specs.declared.ApplyResult.TheVariants.{Zero}
use Rattle.products.proofs.Outcomes.{gone_where_zero}
use Rattle.products.proofs.Changes.{elsewhere}
use Rattle.record.specs.Terms.{weight}
use Rattle.record.specs.Reading.{At}
use Rattle.integers.proofs.SignedNumbers.{abs_sum}
use Rattle.mat_elem.specs.Passing.{passed}

-- ---- one term

-- it is blocked on the ket
pub part_zero : (bra ket : ℕ) (t : Term) {b : Blocked} → Zero b ≡ applied t.cre t.ann ket → pos 0 ≡ part bra ket t
part_zero bra ket t e = sym (ap (adds bra t.coeff) (gone_where_zero t.cre t.ann ket (sym e)))

-- it changes other modes than those in which bra and ket differ
part_elsewhere : (bra ket : ℕ) (t : Term) → t.cre < 2 ^ 64 → t.ann < 2 ^ 64 → (bit_xor t.cre t.ann ≡ bit_xor bra ket → ⊥) → part bra ket t ≡ pos 0
part_elsewhere bra ket t hc ha n =
    elsewhere t.cre t.ann ket hc ha bra n (adds bra t.coeff) (pos 0) refl (λ word sign o. rw (ne_eqb word bra o))

-- ---- the sum

pub record Summed (bra ket : ℕ) (ts : List Term) (z : ℤ) (i : ℕ) : Type 0 where
  pub rest : z +ℤ element bra ket (drop i ts) ≡ element bra ket ts
  pub light : nat_abs z + weight (drop i ts) ≤ 2 ^ 60

weight_rest : (ts : List Term) (i : ℕ) → weight (drop i ts) ≤ weight ts
unfolding weight
weight_rest ts zero = le_refl _
weight_rest [] (suc i) = le_refl _
weight_rest (t ∷ ts) (suc i) = omega (arith, weight_rest ts i)

weight_later : (ts : List Term) (i j : ℕ) → i ≤ j → weight (drop j ts) ≤ weight (drop i ts)
unfolding weight
weight_later ts zero j l = weight_rest ts j
weight_later ts (suc i) zero l = absurd (omega arith)
weight_later [] (suc i) (suc j) l = le_refl _
weight_later (t ∷ ts) (suc i) (suc j) l = weight_later ts i j (omega arith)

module _ (bra ket : ℕ) (ts : List Term) where
  pub sum_starts : weight ts ≤ 2 ^ 60 → Summed bra ket ts (pos 0) 0
  sum_starts h = record { rest = +ℤ_idl (element bra ket ts); light = rw (zero-add (weight ts)) h }

  front : (i : ℕ) (t : Term) → At ts i t
      → (element bra ket (drop i ts) ≡ part bra ket t +ℤ element bra ket (drop (i + 1) ts)) × (weight (drop i ts) ≡ nat_abs t.coeff + weight (drop (i + 1) ts))
  unfolding sum_of weight
  front i t e = (ap (element bra ket) e, ap weight e)

  -- the terms from the first one on to the i-th are passed over, and add nothing
  pub record Passing (first i : ℕ) : Type 0 where
    pub steps : i + passed bra ket (drop i ts) ≡ first + passed bra ket (drop first ts)
    pub same : element bra ket (drop i ts) ≡ element bra ket (drop first ts)

  module _ (first i : ℕ) (g : Passing first i) where
    pub passing_goes : (t : Term) → At ts i t → t.cre < 2 ^ 64 → t.ann < 2 ^ 64 → (bit_xor t.cre t.ann ≡ bit_xor bra ket → ⊥) → Passing first (i + 1)
    unfolding passed
    passing_goes t e hc ha n =
        let more : passed bra ket (drop i ts) ≡ suc (passed bra ket (drop (i + 1) ts)) = ap (passed bra ket) e ∙ rw (ne_eqb _ _ n) in
        let none : element bra ket (drop i ts) ≡ element bra ket (drop (i + 1) ts) = (front i t e).0 ∙ rw (part_elsewhere bra ket t hc ha n) (+ℤ_idl _) in
        record { steps = omega (arith, more, g.steps); same = sym none ∙ g.same }

    none_more : passed bra ket (drop i ts) ≡ 0 → i ≡ first + passed bra ket (drop first ts)
    none_more none = omega (arith, none, g.steps)

    pub passing_stops : (t : Term) → At ts i t → bit_xor t.cre t.ann ≡ bit_xor bra ket → i ≡ first + passed bra ket (drop first ts)
    unfolding passed
    passing_stops t e h = none_more (ap (passed bra ket) e ∙ rw (eq-eqb _ _ h))

    pub passing_ends : drop i ts ≡ [] → i ≡ first + passed bra ket (drop first ts)
    unfolding passed
    passing_ends e = none_more (ap (passed bra ket) e)

  -- from the i-th term on to the j-th, where those between add nothing
  pub sum_passes : (z : ℤ) (i j : ℕ) → i ≤ j → element bra ket (drop j ts) ≡ element bra ket (drop i ts) → Summed bra ket ts z i → Summed bra ket ts z j
  sum_passes z i j l e g = record {
    rest = ap (λ (x : ℤ). z +ℤ x) e ∙ g.rest;
    light = omega (arith, weight_later ts i j l, g.light);
  }

  pub sum_goes : (z p s : ℤ) (i : ℕ) (t : Term) → At ts i t → Summed bra ket ts z i → p ≡ part bra ket t → nat_abs p ≤ nat_abs t.coeff → s ≡ z +ℤ p
      → Summed bra ket ts s (i + 1)
  sum_goes z p s i t e g ep small es = record {
    rest =
        ap (λ (x : ℤ). x +ℤ element bra ket (drop (i + 1) ts)) es ∙ +ℤ_assoc z p (element bra ket (drop (i + 1) ts))
        ∙ ap (λ (x : ℤ). z +ℤ x) (ap (λ (x : ℤ). x +ℤ element bra ket (drop (i + 1) ts)) ep ∙ sym (front i t e).0) ∙ g.rest;
    light = subst (λ (x : ℤ). nat_abs x + weight (drop (i + 1) ts) ≤ 2 ^ 60) (sym es) (omega (arith, abs_sum z p, (front i t e).1, g.light));
  }

  pub sum_fits : (z p : ℤ) (i : ℕ) (t : Term) → At ts i t → Summed bra ket ts z i → nat_abs p ≤ nat_abs t.coeff → nat_abs z + nat_abs p < 2 ^ 63
  sum_fits z p i t e g small = omega (arith, (front i t e).1, g.light)

  pub term_light : (z : ℤ) (i : ℕ) (t : Term) → At ts i t → Summed bra ket ts z i → nat_abs t.coeff < 2 ^ 63
  term_light z i t e g = omega (arith, (front i t e).1, g.light)

  pub sum_ends : (z : ℤ) (i : ℕ) → drop i ts ≡ [] → Summed bra ket ts z i → z ≡ element bra ket ts
  unfolding sum_of
  sum_ends z i e g = sym (+ℤ_idr z) ∙ ap (λ (us : List Term). z +ℤ element bra ket us) (sym e) ∙ g.rest
