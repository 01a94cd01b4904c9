-- What the Hermitian test says of a record that it accepts: the adjoint's bytes are its own, and its elements at (bra, ket) and (ket, bra) agree.
use mathlib.Core.Path.{◌≡◌, sym, ap, ◌∙◌}
use mathlib.Core.Bool.{Bool, true}
use mathlib.Core.List.{List}
use Prim.Native.Nat.{ℕ, ◌^◌, ◌<◌}
use lib.ListN.{take}
use Rattle.modes.proofs.Refusals.{not_refused}
use Rattle.modes.specs.Answers.{none}
use Rattle.record.specs.Operands.{read_as}
use Rattle.modes.specs.declared.Written.{Written}
use Rattle.lent.specs.Outputs.{Gives}
use Rattle.products.specs.Operators.{element}
use Rattle.record.specs.Numbers.{same_numbers}
use Rattle.record.specs.Layout.{encode, modes_of, terms_of}
use Rattle.record.specs.Refusals.{refusal_of}
use Rattle.record.specs.Canonical.{Canonical}
use Rattle.std.specs.Prelude.{Ok}
use Rattle.record.proofs.Numbers.{same_numbers_is, numbers_same}
use Rattle.record.proofs.Accepted.{accepted_canonical}
use Rattle.record.proofs.Inverse.{Small, canonical_fit, encode_decode}
use Rattle.record.proofs.SameElements.{same_elements}
use Rattle.adjoint.specs.Adjoint.{adjoint_terms, adjoint_bytes, adjointed}
use Rattle.adjoint.specs.Hermitian.{hermitian_of}
use Rattle.adjoint.proofs.Terms.{canonical_adjoint}
use Rattle.adjoint.proofs.Elements.{element_adjoint}
use Rattle.adjoint.proofs.Theorems.{bytes_terms, left_by}

module _ (l : List ℕ) (holds : Bool) (e : Ok holds ≡ hermitian_of l) where
  found : (refusal_of 1 l ≡ none) × (holds ≡ same_numbers (adjoint_bytes l) l)
  found = not_refused _ (refusal_of 1 l) holds e

  fine : refusal_of 1 l ≡ none
  fine = found.0

  answer : holds ≡ same_numbers (adjoint_bytes l) l
  answer = found.1

  form : Canonical (modes_of l) (terms_of l)
  form = accepted_canonical 1 l fine

  transposed : (bra ket : ℕ) → element bra ket (adjoint_terms (terms_of l)) ≡ element ket bra (terms_of l)
  transposed bra ket = element_adjoint bra ket (terms_of l) (canonical_fit (modes_of l) (terms_of l) form)

  -- the adjoint's bytes
  pub holds_bytes : holds ≡ true → adjoint_bytes l ≡ l
  holds_bytes h = same_numbers_is (adjoint_bytes l) l (sym answer ∙ h)

  pub bytes_hold : adjoint_bytes l ≡ l → holds ≡ true
  bytes_hold h = answer ∙ rw h (numbers_same l)

  -- those that `adjoint` leaves
  module _ (room : ℕ) (after : List ℕ) (w : Written) (g : Gives (adjointed room (read_as 1 l)) (Ok w) after) where
    pub hermitian_left : holds ≡ true → take w.len after ≡ l
    hermitian_left h = (left_by room l after w g).bytes ∙ holds_bytes h

    pub left_hermitian : take w.len after ≡ l → holds ≡ true
    left_hermitian h = bytes_hold (sym (left_by room l after w g).bytes ∙ h)

  -- the elements
  pub hermitian_elements : holds ≡ true → (bra ket : ℕ) → element bra ket (terms_of l) ≡ element ket bra (terms_of l)
  hermitian_elements h bra ket =
      ap (element bra ket) (sym (ap terms_of (holds_bytes h)) ∙ bytes_terms l fine) ∙ transposed bra ket

  pub elements_hermitian : Small l → ((bra ket : ℕ) → bra < 2 ^ modes_of l → ket < 2 ^ modes_of l → element bra ket (terms_of l) ≡ element ket bra (terms_of l))
      → holds ≡ true
  elements_hermitian small h =
      let same : adjoint_terms (terms_of l) ≡ terms_of l =
      same_elements (modes_of l) (adjoint_terms (terms_of l)) (terms_of l) (canonical_adjoint (modes_of l) (terms_of l) form) form
      (λ bra ket hb hk. transposed bra ket ∙ sym (h bra ket hb hk)) in
      bytes_hold (ap (encode (modes_of l)) same ∙ encode_decode 1 l small fine)
