-- The Hermitian test: the answer found term by term is that of the bytes.
use mathlib.Core.Path.{◌≡◌, refl, sym, ap, ◌∙◌}
use mathlib.Core.Bool.{Bool, true, false}
use mathlib.Core.List.{List}
use Prim.Native.Nat.{ℕ}
use Rattle.modes.proofs.Refusals.{unless_not, unless_so}
use Rattle.record.specs.Numbers.{same_numbers}
use Rattle.record.specs.Layout.{encode, modes_of, terms_in, terms_of}
use Rattle.record.specs.Refusals.{refusal_of, checked_of}
use Rattle.record.specs.declared.Checked.{Checked}
use Rattle.std.specs.Prelude.{Result, Ok, Err}
use Rattle.modes.specs.declared.Refusal.{Refusal}
use Rattle.record.proofs.Numbers.{same_numbers_is, numbers_same}
use Rattle.record.proofs.Accepted.{Accepted, refused}
use Rattle.record.proofs.Inverse.{Small, encode_decode}
use Rattle.adjoint.specs.Adjoint.{adjoint_bytes}
use Rattle.adjoint.specs.Hermitian.{AdjointsAmong, Tells, hermitian_of}
use Rattle.adjoint.proofs.Among.{among_same, same_among}
use Rattle.adjoint.proofs.Theorems.{bytes_terms}

pub hermitian_refused : (l : List ℕ) (r : Refusal) → Err r ≡ checked_of 1 l → Err r ≡ hermitian_of l
hermitian_refused l r e = sym (unless_so (refusal_of 1 l) Err _ r (refused 1 l r e))

module _ (l : List ℕ) (c : Checked) (k : Accepted 1 l c) (small : Small l) where
  same_bytes : AdjointsAmong (terms_of l) (terms_of l) → adjoint_bytes l ≡ l
  same_bytes p = ap (encode (modes_of l)) (among_same (terms_of l) k.canonical.ascending k.canonical.nonzero p) ∙ encode_decode 1 l small k.fine

  bytes_among : adjoint_bytes l ≡ l → AdjointsAmong (terms_of l) (terms_of l)
  bytes_among e = same_among (terms_of l) k.canonical.ascending k.canonical.nonzero (sym (bytes_terms l k.fine) ∙ ap terms_of e)

  told : (b : Bool) → Tells b (AdjointsAmong (terms_of l) (terms_of l)) → b ≡ same_numbers (adjoint_bytes l) l
  told true t = sym (rw (same_bytes (t.yes refl)) (numbers_same l))
  told false t = go (same_numbers (adjoint_bytes l) l) refl
    where
      go : (b : Bool) → same_numbers (adjoint_bytes l) l ≡ b → false ≡ b
      go true e = absurd (t.no refl (bytes_among (same_numbers_is (adjoint_bytes l) l e)))
      go false e = refl

  pub hermitian_found : (b : Bool) → Tells b (AdjointsAmong (terms_in l c.terms) (terms_in l c.terms))
      → ◌≡◌ {A = Result Bool Refusal} (Ok b) (hermitian_of l)
  hermitian_found b t = rw (told b (rw k.terms at t)) (sym (unless_not (refusal_of 1 l) Err _ k.fine))
