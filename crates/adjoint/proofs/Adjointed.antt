-- The three ways out of `adjoint`: the record's refusal, no room, and the adjoint's record.
use mathlib.Core.Path.{◌≡◌, sym, ap, ◌∙◌}
use mathlib.Core.List.{List}
use Prim.Native.Nat.{ℕ, ◌≤◌, ◌<◌}
use native.Mathlib.Omega.{arith}
use borrow.Author.Tests.{le-leb, lt-leb}
use lib.ListN.{length}
use Rattle.record.proofs.Reading.{length_terms}
use Rattle.adjoint.proofs.Terms.{length_adjoint}
use Rattle.record.specs.Operands.{read_as}
use Rattle.modes.specs.Answers.{none, output_too_short}
use Rattle.lent.specs.Outputs.{refused_output, filled_output}
use Rattle.record.specs.Layout.{encode, modes_of, count_of, terms_in, terms_of, record_length}
use Rattle.record.specs.Refusals.{refusal_of, checked_of}
use Rattle.record.specs.Canonical.{Canonical}
use Rattle.record.specs.Outputs.{room_refusal}
use Rattle.record.specs.declared.Checked.{Checked}
use Rattle.std.specs.Prelude.{Err}
use Rattle.modes.specs.declared.Refusal.{Refusal}
use Rattle.record.proofs.Accepted.{Accepted, refused}
use Rattle.record.proofs.Outputs.{refused_earlier, refused_late, delivers}
use Rattle.adjoint.specs.Adjoint.{adjoint_terms, adjointed}

pub adjointed_refused : (room : ℕ) (l : List ℕ) (r : Refusal) → Err r ≡ checked_of 1 l → refused_output room r ≡ adjointed room (read_as 1 l)
adjointed_refused room l r e =
    refused_earlier room 0 (refusal_of 1 l) _ (modes_of l) (adjoint_terms (terms_of l)) r (refused 1 l r e)

module _ (room : ℕ) (l : List ℕ) (c : Checked) (k : Accepted 1 l c) where
  count_is : c.terms ≡ count_of l
  count_is = ap (λ (d : Checked). d.terms) k.is

  modes_are : c.modes ≡ modes_of l
  modes_are = ap (λ (d : Checked). d.modes) k.is

  pub canonical : Canonical c.modes (terms_in l c.terms)
  canonical = rw (k.terms, modes_are) k.canonical

  pub few : c.terms ≤ 2048
  few = omega (arith, k.laid.few, count_is)

  length_is : c.terms ≡ length (adjoint_terms (terms_of l))
  length_is = count_is ∙ sym (length_adjoint (modes_of l) (terms_of l) k.canonical ∙ length_terms l (count_of l))

  pub adjointed_short : room < record_length c.terms → refused_output room output_too_short ≡ adjointed room (read_as 1 l)
  adjointed_short h =
      let short : Err output_too_short ≡ room_refusal room (length (adjoint_terms (terms_of l))) = rw (lt-leb _ _ (rw length_is at h)) in
      refused_late room 0 (refusal_of 1 l) _ (modes_of l) (adjoint_terms (terms_of l)) k.fine output_too_short short

  pub adjointed_filled : record_length c.terms ≤ room
      → filled_output room 0 (encode c.modes (adjoint_terms (terms_in l c.terms))) ≡ adjointed room (read_as 1 l)
  adjointed_filled h =
      let long : none ≡ room_refusal room (length (adjoint_terms (terms_of l))) = rw (le-leb _ _ (rw length_is at h)) in
      rw (k.terms, modes_are) (delivers room 0 (refusal_of 1 l) _ (modes_of l) (adjoint_terms (terms_of l)) k.fine _ long)
