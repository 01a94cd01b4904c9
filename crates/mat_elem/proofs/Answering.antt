-- The ways in which `element` answers: refused with the record or with the words, or found.
use mathlib.Core.Path.{◌≡◌, sym, ap, ◌∙◌}
use mathlib.Core.List.{List}
use Prim.Native.Nat.{ℕ}
use lib.IntN.{ℤ}
use Rattle.std.specs.Prelude.{Result, Ok, Err}
use Rattle.record.specs.Operands.{read_as}
use Rattle.modes.specs.Answers.{Verdict, none}
use Rattle.modes.specs.declared.Refusal.{Refusal}
use Rattle.products.specs.Operators.{element}
use Rattle.record.specs.Layout.{terms_in, modes_of}
use Rattle.record.specs.Refusals.{refusal_of, checked_of}
use Rattle.record.specs.declared.Checked.{Checked}
use Rattle.modes.proofs.Refusals.{second_refuses, neither_refuses, first_refuses}
use Rattle.record.proofs.Accepted.{Accepted, accepted, refused}
use Rattle.modes.specs.Spaces.{words_refusal}
use Rattle.record.specs.Reading.{Sound}
use Rattle.mat_elem.specs.Elements.{element_of}

module _ (a : List ℕ) (bra ket : ℕ) where
  pub record_refused : (r : Refusal) → Err r ≡ checked_of 1 a → Err r ≡ element_of (read_as 1 a) bra ket
  record_refused r e = first_refuses (refusal_of 1 a) _ Err _ r (refused 1 a r e)

  module _ (c : Checked) (e : Ok c ≡ checked_of 1 a) where
    ok : Accepted 1 a c
    ok = accepted 1 a c e

    pub terms_held : Sound a c.terms
    terms_held = ok.held

    of_words : (v : Verdict) → v ≡ words_refusal c.modes bra ket → words_refusal (modes_of a) bra ket ≡ v
    of_words v f = sym (f ∙ ap (λ (d : Checked). words_refusal d.modes bra ket) ok.is)

    pub words_refused : (r : Refusal) → Err r ≡ words_refusal c.modes bra ket → Err r ≡ element_of (read_as 1 a) bra ket
    words_refused r f = second_refuses (refusal_of 1 a) _ Err _ ok.fine r (of_words (Err r) f)

    pub element_found : none ≡ words_refusal c.modes bra ket → (v : ℤ) → v ≡ element bra ket (terms_in a c.terms)
        → ◌≡◌ {A = Result ℤ Refusal} (Ok v) (element_of (read_as 1 a) bra ket)
    element_found f v p =
        ap Ok (p ∙ ap (element bra ket) ok.terms) ∙ neither_refuses (refusal_of 1 a) _ Err _ ok.fine (of_words none f)
