-- The adjoint terms of a canonical form are a canonical form with as many terms, and theirs is the first.
use mathlib.Core.Path.{◌≡◌, refl, sym, ap, ap₂, ◌∙◌}
use mathlib.Core.Bool.{Bool, true, false, cond, ◌&&◌}
use mathlib.Core.List.{List, [], ◌∷◌, map}
use Prim.Native.Nat.{ℕ, ◌+◌, ◌^◌, ◌≤◌}
use native.Mathlib.Omega.{arith}
use lib.IntN.{ℤ, nat_abs, neg_ℤ-neg_ℤ, pos}
use lib.ListN.{length, length-map}
use Rattle.modes.specs.declared.Term.{Term}
use Rattle.modes.specs.Counts.{parity, pairs}
use Rattle.modes.specs.Every.{Every, none, more}
use Rattle.modes.proofs.Every.{every_map}
use lib.Dec.{eqb}
use borrow.Author.Tests.{eqb-true}
use Rattle.lent.proofs.RowLaws.{term_of}
use Rattle.products.specs.Operators.{signed}
use Rattle.products.proofs.Signs.{signed_zero, abs_signed}
use Rattle.modes.proofs.Sums.{sum_map}
use Rattle.record.specs.Terms.{weight}
use Rattle.record.specs.Coefficients.{coeff_in, coeff_of}
use Rattle.record.specs.Canonical.{Inside, Nonzero, Canonical}
use Rattle.modes.specs.Terms.{creations, annihilations}
use Rattle.record.proofs.Accepted.{abs_zero}
use Rattle.normal.proofs.Totals.{sum_signed, coeff_normal}
use Rattle.normal.proofs.Normal.{inside_joins, every_normal, normal_ascending, normal_nonzero, normal_is}
use Rattle.normal.proofs.Sizes.{length_normal, weight_normal}
use Rattle.adjoint.specs.Adjoint.{odd_pairs, adjoint_term, Negatable, adjoint_terms}

-- ---- one term

signed_twice : (b : Bool) (z : ℤ) → signed b (signed b z) ≡ z
signed_twice true z = neg_ℤ-neg_ℤ z
signed_twice false z = refl

pub same_size : (t : Term) → nat_abs (adjoint_term t).coeff ≡ nat_abs t.coeff
unfolding adjoint_term
same_size t = abs_signed (odd_pairs t) t.coeff

same_pairs : (t : Term) → odd_pairs (adjoint_term t) ≡ odd_pairs t
unfolding odd_pairs adjoint_term
same_pairs t =
    let e : pairs (annihilations t) + pairs (creations t) ≡ pairs (creations t) + pairs (annihilations t) = omega arith in ap parity e

still_inside : (m : ℕ) (t : Term) → Inside m t → Inside m (adjoint_term t)
unfolding adjoint_term
still_inside m t h = record { ann = h.cre; cre = h.ann }

pub still_nonzero : (t : Term) → Nonzero t → Nonzero (adjoint_term t)
still_nonzero t h e = h (abs_zero t.coeff (sym (same_size t) ∙ ap nat_abs e))

-- one term from what the code finds of it
pub adjoint_made : (t : Term) (x y : ℕ) (s : Bool) (z : ℤ) → x ≡ pairs (creations t) → y ≡ pairs (annihilations t) → s ≡ parity (x + y)
    → z ≡ signed s t.coeff
    → ◌≡◌ {A = Term} (record { cre = t.ann; ann = t.cre; coeff = z }) (adjoint_term t)
unfolding adjoint_term odd_pairs
adjoint_made t x y s z ex ey es ez = term_of refl refl (ez ∙ rw (es, ex, ey))

-- ---- the adjoint terms

-- whether the pairs of two words are odd in number
abbrev pub odd_words : ℕ → ℕ → Bool
odd_words c a = odd_pairs (record { cre = c; ann = a; coeff = pos 0 })

odd_words_is : (c a : ℕ) → odd_words a c ≡ odd_words c a
unfolding odd_pairs adjoint_term
odd_words_is c a = same_pairs (record { cre = c; ann = a; coeff = pos 0 })

coeff_swapped : (c a : ℕ) (t : Term) → coeff_in c a (adjoint_term t) ≡ signed (odd_words a c) (coeff_in a c t)
unfolding adjoint_term odd_pairs
coeff_swapped c a t = go (eqb t.cre a) (eqb t.ann c) refl refl
  where
    go : (x y : Bool) → eqb t.cre a ≡ x → eqb t.ann c ≡ y
        → cond (x && y) (signed (odd_pairs t) t.coeff) (pos 0) ≡ signed (odd_words a c) (cond (y && x) t.coeff (pos 0))
    go true true p q = ap₂ (λ (v w : ℕ). signed (odd_words v w) t.coeff) (eqb-true _ _ p) (eqb-true _ _ q)
    go true false p q = sym (signed_zero (odd_words a c))
    go false true p q = sym (signed_zero (odd_words a c))
    go false false p q = sym (signed_zero (odd_words a c))

-- the adjoint's coefficient at {c|a} is the operator's at {a|c}, with the sign of these words
pub coeff_adjoint : (c a : ℕ) (ts : List Term) → coeff_of c a (map adjoint_term ts) ≡ signed (odd_words a c) (coeff_of a c ts)
coeff_adjoint c a ts =
    sum_map (coeff_in c a) adjoint_term ts ∙ sum_signed (λ t. coeff_in c a (adjoint_term t)) (coeff_in a c) (odd_words a c) (coeff_swapped c a) ts

-- the adjoint of the adjoint
pub terms_twice : (m : ℕ) (ts : List Term) → Canonical m ts → adjoint_terms (adjoint_terms ts) ≡ ts
terms_twice m ts k =
    sym (normal_is ts (map adjoint_term (adjoint_terms ts)) k.ascending k.nonzero
    (λ c a. sym (coeff_adjoint c a (adjoint_terms ts) ∙ ap (signed (odd_words a c)) (coeff_normal a c (map adjoint_term ts) ∙ coeff_adjoint a c ts)
    ∙ rw (odd_words_is a c) (signed_twice (odd_words a c) (coeff_of c a ts)))))

weight_map : (ts : List Term) → weight (map adjoint_term ts) ≡ weight ts
unfolding weight
weight_map [] = refl
weight_map (t ∷ ts) = omega (arith, same_size t, weight_map ts)

pub canonical_adjoint : (m : ℕ) (ts : List Term) → Canonical m ts → Canonical m (adjoint_terms ts)
canonical_adjoint m ts k =
    let us = map adjoint_term ts in
    record {
      some = k.some;
      most = k.most;
      few = omega (arith, k.few, length_normal us, length-map ts adjoint_term);
      inside = every_normal (inside_joins m) us (every_map adjoint_term ts (still_inside m) k.inside);
      ascending = normal_ascending us;
      nonzero = normal_nonzero us;
      light = omega (arith, k.light, weight_normal us, weight_map ts);
    }

-- none is joined or dropped: the adjoint of the adjoint has as many again
pub length_adjoint : (m : ℕ) (ts : List Term) → Canonical m ts → length (adjoint_terms ts) ≡ length ts
length_adjoint m ts k =
    let us = map adjoint_term ts in
    let vs = map adjoint_term (adjoint_terms ts) in
    omega (arith, length_normal us, length-map ts adjoint_term, length_normal vs, length-map (adjoint_terms ts) adjoint_term, ap length (terms_twice m ts k))

-- ---- what can be negated

light_negatable : (ts : List Term) → weight ts ≤ 2 ^ 60 → Every Negatable ts
unfolding weight
light_negatable [] h = none
light_negatable (t ∷ ts) h = more {x = t} (omega arith) (light_negatable ts (omega arith))

pub negatable : (m : ℕ) (ts : List Term) → Canonical m ts → Every Negatable ts
negatable m ts k = light_negatable ts k.light
