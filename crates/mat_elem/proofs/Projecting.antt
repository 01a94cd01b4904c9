-- The ways in which `mat_ortho_projected` answers: refused with the record or with the basis, or filled.
use mathlib.Core.Path.{◌≡◌, sym, ap, ◌∙◌}
use mathlib.Core.List.{List}
use Prim.Native.Nat.{ℕ, ◌≤◌}
use lib.Dec.{leb}
use lib.ListN.{length}
use borrow.Author.Tests.{leb-true}
use Rattle.std.specs.Prelude.{Result, Ok, Err}
use Rattle.record.specs.Operands.{read_as}
use Rattle.modes.specs.Answers.{Verdict, refusal, none}
use Rattle.modes.specs.declared.Reason.TheVariants.{BadBasis}
use Rattle.modes.specs.declared.Refusal.{Refusal}
use Rattle.modes.specs.declared.Term.{Term}
use Rattle.record.specs.Layout.{terms_in, modes_of}
use Rattle.record.specs.Refusals.{refusal_of, checked_of}
use Rattle.record.specs.declared.Checked.{Checked}
use Rattle.modes.proofs.Refusals.{neither, second_refuses, neither_refuses, first_refuses, needed}
use Rattle.record.proofs.Accepted.{Accepted, accepted, refused}
use Rattle.record.specs.Reading.{Sound}
use Rattle.mat_elem.specs.Matrix.{basis_refusal, matrix_of, projected_of}
use Rattle.mat_elem.specs.declared.Row.{Row}

-- ---- the basis

module _ (m : ℕ) (basis : List ℕ) where
  -- a basis that is not refused is short
  pub basis_short : basis_refusal m basis ≡ none → length basis ≤ 8
  unfolding basis_refusal
  basis_short z = leb-true _ _ (needed (leb (length basis) 8) (refusal BadBasis 3 0) (neither _ _ z).0)

-- ---- the call

module _ (a basis : List ℕ) where
  pub operator_refused : (r : Refusal) → Err r ≡ checked_of 1 a → Err r ≡ projected_of (read_as 1 a) basis
  operator_refused r e = first_refuses (refusal_of 1 a) _ Err _ r (refused 1 a r e)

  module _ (c : Checked) (e : Ok c ≡ checked_of 1 a) where
    ok : Accepted 1 a c
    ok = accepted 1 a c e

    of_basis : (v : Verdict) → v ≡ basis_refusal c.modes basis → basis_refusal (modes_of a) basis ≡ v
    of_basis v f = sym (f ∙ ap (λ (d : Checked). basis_refusal d.modes basis) ok.is)

    pub basis_refused : (r : Refusal) → Err r ≡ basis_refusal c.modes basis → Err r ≡ projected_of (read_as 1 a) basis
    basis_refused r f = second_refuses (refusal_of 1 a) _ Err _ ok.fine r (of_basis (Err r) f)

    pub terms_held : Sound a c.terms
    terms_held = ok.held

    module _ (f : none ≡ basis_refusal c.modes basis) where
      pub projected : (rows : List Row) → rows ≡ matrix_of (terms_in a c.terms) basis
          → ◌≡◌ {A = Result (List Row) Refusal} (Ok rows) (projected_of (read_as 1 a) basis)
      projected rows g =
          ap Ok (g ∙ ap (λ (ts : List Term). matrix_of ts basis) ok.terms)
          ∙ neither_refuses (refusal_of 1 a) _ Err _ ok.fine (of_basis none f)
