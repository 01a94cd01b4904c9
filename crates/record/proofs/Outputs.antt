-- Calls that write a record to a lent output: each way out, and that what stands there where none refuses is accepted and holds the terms.
use mathlib.Core.Path.{◌≡◌, refl, sym, ap, ◌∙◌, subst}
use mathlib.Core.List.{List, ◌++◌}
use Prim.Native.Nat.{ℕ, ◌-◌, ◌≤◌}
use lib.Dec.{leb}
use lib.ListN.{length, take}
use lib.Seq.{take_at}
use borrow.Author.Tests.{leb-true}
use Rattle.modes.specs.declared.Term.{Term}
use Rattle.modes.specs.declared.Refusal.{Refusal}
use Rattle.modes.specs.declared.Written.{Written}
use Rattle.std.specs.Prelude.{Result, Ok, Err}
use Rattle.modes.specs.Answers.{Verdict, none, wrote}
use Rattle.lent.specs.Bytes.{zeros}
use Rattle.lent.specs.Outputs.{Output, refused_output, filled_output, Gives}
use Rattle.record.specs.Layout.{encode, modes_of, terms_of}
use Rattle.modes.specs.Refusals.{or_else, need}
use Rattle.record.specs.Refusals.{refusal_of}
use Rattle.record.specs.Canonical.{Canonical}
use Rattle.record.specs.Outputs.{record_output}
use Rattle.modes.proofs.Refusals.{neither, first_refuses, second_refuses, neither_refuses, either_way, needed}
use Rattle.record.proofs.Inverse.{decode_modes, decode_terms, encode_accepted}

-- a bound whose refusal is not given is kept
pub bound_kept : (x y : ℕ) (r : Refusal) → need (leb x y) r ≡ none → x ≤ y
bound_kept x y r z = leb-true x y (needed (leb x y) r z)

-- ---- each way out of a call that is refused by earlier, or else by later

module _ (room branches : ℕ) (earlier later : Verdict) (m : ℕ) (ts : List Term) where
  pub refused_earlier : (r : Refusal) → earlier ≡ Err r → refused_output room r ≡ record_output room branches (or_else earlier later) m ts
  refused_earlier r e = first_refuses earlier later (refused_output room) _ r e

  module _ (fine : earlier ≡ none) where
    pub refused_late : (r : Refusal) → Err r ≡ later → refused_output room r ≡ record_output room branches (or_else earlier later) m ts
    refused_late r e = second_refuses earlier later (refused_output room) _ fine r (sym e)

    pub delivers : (x : Unit {0}) → Ok x ≡ later → filled_output room branches (encode m ts) ≡ record_output room branches (or_else earlier later) m ts
    delivers x e = neither_refuses earlier later (refused_output room) _ fine (sym e)

pub gives_as : {o q : Output} {r : Result Written Refusal} {x : List ℕ} → o ≡ q → Gives o r x → Gives q r x
gives_as {o} {q} {r} {x} e g = subst (λ (y : Output). Gives y r x) e g

-- ---- a call that is not refused

pub written_len : (r : Written) (len branches : ℕ) → ◌≡◌ {A = Result Written Refusal} (Ok r) (Ok (wrote len branches)) → r.len ≡ len
written_len r len branches e = let is : r ≡ wrote len branches = cc in ap (λ (w : Written). w.len) is

module _ (room branches : ℕ) (earlier later : Verdict) (m : ℕ) (ts : List Term) (r : Written) (after : List ℕ)
    (g : Gives (record_output room branches (or_else earlier later) m ts) (Ok r) after) where
  given : (or_else earlier later ≡ none) × (record_output room branches (or_else earlier later) m ts ≡ filled_output room branches (encode m ts))
  given =
      either_way (or_else earlier later) (refused_output room) (filled_output room branches (encode m ts))
      (λ o. Ok r ≡ o.answer → (or_else earlier later ≡ none) × (o ≡ filled_output room branches (encode m ts)))
      (λ z e. (z, refl)) (λ f q e. cc) g.answer

  pub none_refused : (earlier ≡ none) × (later ≡ none)
  none_refused = neither earlier later given.0

  -- the bytes of the answer's length are the record
  pub output_record : take r.len after ≡ encode m ts
  output_record =
      let bytes : after ≡ encode m ts ++ zeros (room - length (encode m ts)) = g.bytes ∙ ap (λ (o : Output). o.bytes) given.1 in
      let len : r.len ≡ length (encode m ts) = written_len r (length (encode m ts)) branches (g.answer ∙ ap (λ (o : Output). o.answer) given.1) in
      ap (take r.len) bytes ∙ take_at (encode m ts) _ r.len (sym len)

  -- THE OUTPUT OF A CALL. Where the terms are a canonical form, the record is accepted, and its modes and terms are these
  module _ (k : Canonical m ts) where
    pub output_accepted : (o : ℕ) → refusal_of o (take r.len after) ≡ none
    output_accepted o = ap (refusal_of o) output_record ∙ encode_accepted m ts k o

    pub output_modes : modes_of (take r.len after) ≡ m
    output_modes = ap modes_of output_record ∙ decode_modes m ts k

    pub output_terms : terms_of (take r.len after) ≡ ts
    output_terms = ap terms_of output_record ∙ decode_terms m ts k
