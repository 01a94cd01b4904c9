-- What `adjoint` leaves where it does not refuse: a record that is accepted, with transposed elements, and whose adjoint is the first record.
use mathlib.Core.Path.{◌≡◌, ap, ap₂, ◌∙◌}
use mathlib.Core.List.{List}
use Prim.Native.Nat.{ℕ}
use lib.ListN.{take}
use Rattle.record.specs.Operands.{read_as}
use Rattle.modes.specs.declared.Written.{Written}
use Rattle.std.specs.Prelude.{Ok}
use Rattle.modes.specs.Answers.{none}
use Rattle.lent.specs.Outputs.{Gives}
use Rattle.products.specs.Operators.{element}
use Rattle.record.specs.Layout.{encode, modes_of, terms_of}
use Rattle.record.specs.Refusals.{refusal_of}
use Rattle.record.specs.Canonical.{Canonical}
use Rattle.record.proofs.Accepted.{accepted_canonical}
use Rattle.record.proofs.Inverse.{Small, canonical_fit, decode_modes, decode_terms, encode_accepted, encode_decode}
use Rattle.record.proofs.Outputs.{none_refused, output_record}
use Rattle.adjoint.specs.Adjoint.{adjoint_terms, adjoint_bytes, adjointed}
use Rattle.adjoint.proofs.Terms.{canonical_adjoint, terms_twice}
use Rattle.adjoint.proofs.Elements.{element_adjoint}

-- ---- the adjoint's bytes

module _ (l : List ℕ) (e : refusal_of 1 l ≡ none) where
  canonical : Canonical (modes_of l) (adjoint_terms (terms_of l))
  canonical = canonical_adjoint (modes_of l) (terms_of l) (accepted_canonical 1 l e)

  pub bytes_accepted : (o : ℕ) → refusal_of o (adjoint_bytes l) ≡ none
  bytes_accepted = encode_accepted (modes_of l) (adjoint_terms (terms_of l)) canonical

  pub bytes_modes : modes_of (adjoint_bytes l) ≡ modes_of l
  bytes_modes = decode_modes (modes_of l) (adjoint_terms (terms_of l)) canonical

  pub bytes_terms : terms_of (adjoint_bytes l) ≡ adjoint_terms (terms_of l)
  bytes_terms = decode_terms (modes_of l) (adjoint_terms (terms_of l)) canonical

  pub bytes_twice : Small l → adjoint_bytes (adjoint_bytes l) ≡ l
  bytes_twice small =
      ap₂ encode bytes_modes (ap adjoint_terms bytes_terms ∙ terms_twice (modes_of l) (terms_of l) (accepted_canonical 1 l e))
      ∙ encode_decode 1 l small e

-- ---- the bytes that a call leaves

-- an answer that is no refusal, and its bytes
pub record Left (l after : List ℕ) (r : Written) : Type 0 where
  pub fine : refusal_of 1 l ≡ none
  pub bytes : take r.len after ≡ adjoint_bytes l

pub left_by : (room : ℕ) (l after : List ℕ) (r : Written) → Gives (adjointed room (read_as 1 l)) (Ok r) after → Left l after r
left_by room l after r g =
    record {
      fine = (none_refused room 0 (refusal_of 1 l) _ (modes_of l) (adjoint_terms (terms_of l)) r after g).0;
      bytes = output_record room 0 (refusal_of 1 l) _ (modes_of l) (adjoint_terms (terms_of l)) r after g;
    }

module _ (room : ℕ) (l after : List ℕ) (r : Written) (g : Gives (adjointed room (read_as 1 l)) (Ok r) after) where
  left : Left l after r
  left = left_by room l after r g

  -- the output's record is itself accepted, on the same modes
  pub adjoint_accepted : (o : ℕ) → refusal_of o (take r.len after) ≡ none
  adjoint_accepted o = ap (refusal_of o) left.bytes ∙ bytes_accepted l left.fine o

  pub adjoint_modes : modes_of (take r.len after) ≡ modes_of l
  adjoint_modes = ap modes_of left.bytes ∙ bytes_modes l left.fine

  -- its element at (bra, ket) is the record's at (ket, bra)
  pub adjoint_elements : (bra ket : ℕ) → element bra ket (terms_of (take r.len after)) ≡ element ket bra (terms_of l)
  adjoint_elements bra ket =
      ap (λ (x : List ℕ). element bra ket (terms_of x)) left.bytes ∙ ap (element bra ket) (bytes_terms l left.fine)
      ∙ element_adjoint bra ket (terms_of l) (canonical_fit (modes_of l) (terms_of l) (accepted_canonical 1 l left.fine))

  -- the adjoint of what it leaves is the record
  pub adjoint_restores : (room' : ℕ) (after' : List ℕ) (r' : Written) → Small l → Gives (adjointed room' (read_as 1 (take r.len after))) (Ok r') after'
      → take r'.len after' ≡ l
  adjoint_restores room' after' r' small g' =
      (left_by room' (take r.len after) after' r' g').bytes ∙ ap adjoint_bytes left.bytes ∙ bytes_twice l left.fine small
