-- What the comparison says of two records that it accepts: equal exactly if all elements agree, and then the bytes do;
-- otherwise the elements at the pair named differ.
use mathlib.Core.Path.{◌≡◌, refl, sym, ap, ◌∙◌, subst}
use mathlib.Core.List.{List}
use mathlib.Core.Logic.{◌⊎◌, inl, inr}
use Prim.Native.Nat.{ℕ, ◌^◌, ◌≤◌, ◌<◌}
use native.Mathlib.Omega.{arith}
use borrow.Author.Tests.{eq-eqb}
use Rattle.record.specs.Operands.{read_as}
use Rattle.modes.specs.Answers.{none}
use Rattle.modes.specs.Words.{bit}
use Rattle.modes.specs.Counts.{count}
use Rattle.modes.proofs.Digits.{lt_or_ge}
use Rattle.products.specs.Operators.{element}
use Rattle.record.specs.Layout.{modes_of, terms_of}
use Rattle.record.specs.Refusals.{refusal_of}
use Rattle.record.specs.Coefficients.{coeff_of}
use Rattle.record.specs.Canonical.{Canonical}
use Rattle.modes.proofs.Refusals.{or_second, unless_not, not_refused as answered_is}
use Rattle.record.proofs.Accepted.{accepted_canonical}
use Rattle.record.proofs.Inverse.{Small, same_bytes}
use Rattle.record.proofs.Coefficients.{same_terms}
use Rattle.record.proofs.SameElements.{none_outside, same_coefficient}
use Rattle.normal.proofs.Words.{same_or_not}
use Rattle.results.specs.Results.{operands_refusal}
use Rattle.results.proofs.Results.{first_fine, second_fine, same_modes}
use Rattle.compare.specs.Comparison.{differing, named, compared_of}
use Rattle.std.specs.Prelude.{Option, Some, None, Result, Ok, Err}
use Rattle.modes.specs.declared.Refusal.{Refusal}
use Rattle.compare.specs.declared.Difference.{Difference}
use Rattle.compare.proofs.Naming.{Lists, none_named, named_differs, none_fewer}
use Rattle.compare.proofs.Differing.{Differ, lists_differing}

-- two accepted records on one number of modes are not refused
pub not_refused : (a b : List ℕ) (r : Result (Option Difference) Refusal) → r ≡ compared_of (read_as 1 a) (read_as 2 b)
    → refusal_of 1 a ≡ none → refusal_of 2 b ≡ none → modes_of a ≡ modes_of b → r ≡ Ok (named (differing (terms_of a) (terms_of b)))
not_refused a b r e x y m =
    let pair : operands_refusal (read_as 1 a) (read_as 2 b) ≡ none =
    rw (x, y, eq-eqb (modes_of a) (modes_of b) m) (or_second none _ refl ∙ or_second none _ refl) in
    e ∙ unless_not _ Err (Ok (named (differing (terms_of a) (terms_of b)))) pair

-- an answer that is no refusal
record Answers (a b : List ℕ) (r : Option Difference) : Type 0 where
  fine : operands_refusal (read_as 1 a) (read_as 2 b) ≡ none
  is : r ≡ named (differing (terms_of a) (terms_of b))

answers : (a b : List ℕ) (r : Option Difference) → Ok r ≡ compared_of (read_as 1 a) (read_as 2 b) → Answers a b r
answers a b r e =
    let found = answered_is (named (differing (terms_of a) (terms_of b))) (operands_refusal (read_as 1 a) (read_as 2 b)) r e in
    record { fine = found.0; is = found.1 }

-- equal where it is None, and different where it is a pair of words
module _ (a b : List ℕ) (r : Option Difference) (e : Ok r ≡ compared_of (read_as 1 a) (read_as 2 b)) where
  answer : Answers a b r
  answer = answers a b r e

  one : Canonical (modes_of a) (terms_of a)
  one = accepted_canonical 1 a (first_fine a b answer.fine)

  two : Canonical (modes_of a) (terms_of b)
  two = subst (λ (k : ℕ). Canonical k (terms_of b)) (sym (same_modes a b answer.fine)) (accepted_canonical 2 b (second_fine a b answer.fine))

  listed : Lists (Differ (terms_of a) (terms_of b)) (differing (terms_of a) (terms_of b))
  listed = lists_differing (terms_of a) (terms_of b)

  -- ---- equal

  equal_terms : r ≡ None → terms_of a ≡ terms_of b
  equal_terms h =
      same_terms (terms_of a) (terms_of b) one.ascending two.ascending one.nonzero two.nonzero (λ c k. go c k (same_or_not _ _))
    where
      go : (c k : ℕ) → (coeff_of c k (terms_of a) ≡ coeff_of c k (terms_of b)) ⊎ Differ (terms_of a) (terms_of b) c k
          → coeff_of c k (terms_of a) ≡ coeff_of c k (terms_of b)
      go c k (inl q) = q
      go c k (inr d) = absurd (none_named (Differ (terms_of a) (terms_of b)) _ listed (sym answer.is ∙ h) c k d)

  -- the bytes, and so all elements
  pub equal_bytes : Small a → Small b → r ≡ None → a ≡ b
  equal_bytes sa sb h =
      same_bytes 1 2 a b sa sb (first_fine a b answer.fine) (second_fine a b answer.fine) (same_modes a b answer.fine) (equal_terms h)

  pub equal_elements : r ≡ None → (bra ket : ℕ) → element bra ket (terms_of a) ≡ element bra ket (terms_of b)
  equal_elements h bra ket = ap (element bra ket) (equal_terms h)

  -- ---- different

  -- words that differ are on the records' modes
  inside : (c k : ℕ) → Differ (terms_of a) (terms_of b) c k → (c < 2 ^ modes_of a) × (k < 2 ^ modes_of a)
  inside c k d = go (lt_or_ge c (2 ^ modes_of a)) (lt_or_ge k (2 ^ modes_of a))
    where
      not_outside : (c < 2 ^ modes_of a → k < 2 ^ modes_of a → ⊥) → ⊥
      not_outside n = d (none_outside (modes_of a) c k (terms_of a) one.inside n ∙ sym (none_outside (modes_of a) c k (terms_of b) two.inside n))

      go : (c < 2 ^ modes_of a) ⊎ (2 ^ modes_of a ≤ c) → (k < 2 ^ modes_of a) ⊎ (2 ^ modes_of a ≤ k) → (c < 2 ^ modes_of a) × (k < 2 ^ modes_of a)
      go (inl x) (inl y) = (x, y)
      go (inl x) (inr y) = absurd (not_outside (λ p q. omega arith))
      go (inr x) y = absurd (not_outside (λ p q. omega arith))

  module _ (d : Difference) (h : r ≡ Some d) where
    named_is : named (differing (terms_of a) (terms_of b)) ≡ Some d
    named_is = sym answer.is ∙ h

    differ : Differ (terms_of a) (terms_of b) d.bra d.ket
    differ = named_differs (Differ (terms_of a) (terms_of b)) _ listed d named_is

    agree : (c k : ℕ) → count 64 (bit k) < count 64 (bit d.ket) → coeff_of c k (terms_of a) ≡ coeff_of c k (terms_of b)
    agree c k l = go (same_or_not _ _)
      where
        go : (coeff_of c k (terms_of a) ≡ coeff_of c k (terms_of b)) ⊎ Differ (terms_of a) (terms_of b) c k
            → coeff_of c k (terms_of a) ≡ coeff_of c k (terms_of b)
        go (inl q) = q
        go (inr n) = absurd (none_fewer (Differ (terms_of a) (terms_of b)) _ listed d named_is c k l n)

    -- the pair named is on the records' modes, and the elements at it differ
    pub named_inside : (d.bra < 2 ^ modes_of a) × (d.ket < 2 ^ modes_of a)
    named_inside = inside d.bra d.ket differ

    pub different_elements : element d.bra d.ket (terms_of a) ≡ element d.bra d.ket (terms_of b) → ⊥
    different_elements q =
        differ (same_coefficient (modes_of a) (terms_of a) (terms_of b) one two d.bra d.ket named_inside.1 (λ c k hc hk l. agree c k l) q)

  -- elements that agree at all words on the records' modes: equal
  pub elements_equal : ((bra ket : ℕ) → bra < 2 ^ modes_of a → ket < 2 ^ modes_of a → element bra ket (terms_of a) ≡ element bra ket (terms_of b)) → r ≡ None
  elements_equal h = go r refl
    where
      go : (s : Option Difference) → r ≡ s → s ≡ None
      go None q = refl
      go (Some d) q = absurd (different_elements d q (h d.bra d.ket (named_inside d q).0 (named_inside d q).1))
