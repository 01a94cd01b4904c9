-- What `mul`, `commutator` and `anticommutator` leave where they do not refuse: a record that is accepted, with the elements that the two operators give, one after the other.
use mathlib.Core.Path.{◌≡◌, ap, ◌∙◌}
use mathlib.Core.Bool.{Bool, true, false, cond}
use mathlib.Core.List.{List, []}
use Prim.Native.Nat.{ℕ, ◌≤◌}
use native.Mathlib.Nat.{lt_of_lt_of_le}
use lib.IntN.{ℤ, neg_ℤ, ◌+ℤ◌, ◌*ℤ◌, +ℤ_idr}
use lib.ListN.{length, take}
use lib.Pow.{pow_mono}
use Rattle.record.specs.Operands.{read_as}
use Rattle.modes.specs.declared.Term.{Term}
use Rattle.modes.specs.declared.Written.{Written}
use Rattle.std.specs.Prelude.{Ok}
use Rattle.modes.specs.Answers.{none}
use Rattle.modes.specs.Every.{Every, none as nothing}
use Rattle.modes.proofs.Every.{every_implies, every_append, every_list}
use Rattle.lent.specs.Outputs.{Gives}
use Rattle.products.specs.Operators.{signed, element}
use Rattle.products.specs.Product.{rows_times}
use Rattle.products.proofs.ProductTheorems.{rows_within}
use Rattle.record.specs.Terms.{weight}
use Rattle.record.specs.Layout.{modes_of, terms_of}
use Rattle.modes.specs.Refusals.{or_else}
use Rattle.record.specs.Refusals.{refusal_of}
use Rattle.record.specs.Canonical.{Inside, Canonical}
use Rattle.modes.proofs.Refusals.{neither}
use Rattle.record.proofs.Accepted.{accepted_canonical}
use Rattle.normal.specs.Normal.{normal}
use Rattle.normal.proofs.Totals.{element_normal}
use Rattle.results.specs.Results.{operands_refusal, result_refusal}
use Rattle.results.proofs.Results.{first_fine, second_fine, same_modes, result_canonical}
use Rattle.pairs.specs.Products.{pair_rows, all_rows, all_branches, in_succession}
use Rattle.record.proofs.Outputs.{none_refused, output_accepted, output_modes, output_terms}
use Rattle.multiply.specs.Answers.{weight_refusal, work_refusal, early_refusal, product_answer, product_of, commutator_of, anticommutator_of}
use Rattle.multiply.proofs.Elements.{other, all_elements}

-- ---- no row holds a mode that its two terms do not

module _ (m : ℕ) where
  rows_inside : (t u : Term) (z : ℤ) → Inside m t → Inside m u → Every (Inside m) (rows_times t.cre t.ann u.cre u.ann z)
  rows_inside t u z ht hu =
      every_implies (rows_times t.cre t.ann u.cre u.ann z) (λ r h. record { ann = h.0; cre = h.1 })
      (rows_within t.cre t.ann u.cre u.ann m ht.cre ht.ann hu.cre hu.ann z)

  module _ (both minus : Bool) where
    pair_inside : (t u : Term) → Inside m t → Inside m u → Every (Inside m) (pair_rows both minus t u)
    unfolding pair_rows
    pair_inside t u ht hu = every_append _ _ (rows_inside t u (t.coeff *ℤ u.coeff) ht hu) (go both)
      where
        go : (b : Bool) → Every (Inside m) (cond b (rows_times u.cre u.ann t.cre t.ann (signed minus (t.coeff *ℤ u.coeff))) [])
        go true = rows_inside u t (signed minus (t.coeff *ℤ u.coeff)) hu ht
        go false = nothing

    all_inside : (ts us : List Term) → Every (Inside m) ts → Every (Inside m) us → Every (Inside m) (all_rows both minus ts us)
    all_inside ts us hts hus = every_list _ ts (λ t ht. every_list _ us (λ u. pair_inside t u ht) hus) hts

wider : (m : ℕ) → m ≤ 64 → (ts : List Term) → Every (Inside m) ts → Every (Inside 64) ts
wider m h ts = every_implies ts (λ t k. record { ann = lt_of_lt_of_le k.ann (pow_mono h); cre = lt_of_lt_of_le k.cre (pow_mono h) })

-- ---- the bytes that a call leaves where it is not refused

module _ (both minus : Bool) (work room : ℕ) (a b : List ℕ) (r : Written) (after : List ℕ) (g : Gives (product_answer both minus work room (read_as 1 a) (read_as 2 b)) (Ok r) after) where
  abbrev rows : List Term
  rows = all_rows both minus (terms_of a) (terms_of b)

  abbrev branches : ℕ
  branches = all_branches both (terms_of a) (terms_of b)

  fine : (early_refusal both work (read_as 1 a) (read_as 2 b) ≡ none) × (result_refusal room (length (normal rows)) (weight (normal rows)) ≡ none)
  fine = none_refused room branches (early_refusal both work (read_as 1 a) (read_as 2 b)) _ (modes_of a) (normal rows) r after g

  pair : operands_refusal (read_as 1 a) (read_as 2 b) ≡ none
  pair = (neither (operands_refusal (read_as 1 a) (read_as 2 b)) (or_else (weight_refusal (weight (terms_of a)) (weight (terms_of b))) (work_refusal work branches)) fine.0).0

  left : Canonical (modes_of a) (terms_of a)
  left = accepted_canonical 1 a (first_fine a b pair)

  right : Every (Inside (modes_of a)) (terms_of b)
  right = rw (same_modes a b pair) (accepted_canonical 2 b (second_fine a b pair)).inside

  form : Canonical (modes_of a) (normal rows)
  form =
      result_canonical (modes_of a) rows left.some left.most (all_inside (modes_of a) both minus (terms_of a) (terms_of b) left.inside right) room fine.1

  -- the output's record is accepted
  pub product_accepted : (o : ℕ) → refusal_of o (take r.len after) ≡ none
  product_accepted = output_accepted room branches (early_refusal both work (read_as 1 a) (read_as 2 b)) _ (modes_of a) (normal rows) r after g form

  pub product_modes : modes_of (take r.len after) ≡ modes_of a
  product_modes = output_modes room branches (early_refusal both work (read_as 1 a) (read_as 2 b)) _ (modes_of a) (normal rows) r after g form

  product_terms : terms_of (take r.len after) ≡ normal rows
  product_terms = output_terms room branches (early_refusal both work (read_as 1 a) (read_as 2 b)) _ (modes_of a) (normal rows) r after g form

  product_elements : (bra ket : ℕ) → element bra ket (terms_of (take r.len after))
      ≡ in_succession bra ket (terms_of a) (terms_of b) +ℤ other both minus (in_succession bra ket (terms_of b) (terms_of a))
  product_elements bra ket =
      ap (element bra ket) product_terms ∙ element_normal bra ket rows
      ∙ all_elements bra ket both minus (terms_of a) (terms_of b) (wider (modes_of a) left.most (terms_of a) left.inside) (wider (modes_of a) left.most (terms_of b) right)

-- THE PRODUCT: at every bra and ket the record left has the element that b and then a give, ladder by ladder
pub mul_elements : (work room : ℕ) (a b : List ℕ) (r : Written) (after : List ℕ) → Gives (product_of work room (read_as 1 a) (read_as 2 b)) (Ok r) after
    → (bra ket : ℕ)
    → element bra ket (terms_of (take r.len after)) ≡ in_succession bra ket (terms_of a) (terms_of b)
unfolding other
mul_elements work room a b r after g bra ket = product_elements false false work room a b r after g bra ket ∙ +ℤ_idr (in_succession bra ket (terms_of a) (terms_of b))

-- THE COMMUTATOR: minus the other order
pub commutator_elements : (work room : ℕ) (a b : List ℕ) (r : Written) (after : List ℕ) → Gives (commutator_of work room (read_as 1 a) (read_as 2 b)) (Ok r) after
    → (bra ket : ℕ)
    → element bra ket (terms_of (take r.len after)) ≡ in_succession bra ket (terms_of a) (terms_of b) +ℤ neg_ℤ (in_succession bra ket (terms_of b) (terms_of a))
unfolding other
commutator_elements = product_elements true true

-- THE ANTICOMMUTATOR: plus the other order
pub anticommutator_elements : (work room : ℕ) (a b : List ℕ) (r : Written) (after : List ℕ) → Gives (anticommutator_of work room (read_as 1 a) (read_as 2 b)) (Ok r) after
    → (bra ket : ℕ)
    → element bra ket (terms_of (take r.len after)) ≡ in_succession bra ket (terms_of a) (terms_of b) +ℤ in_succession bra ket (terms_of b) (terms_of a)
unfolding other
anticommutator_elements = product_elements true false
