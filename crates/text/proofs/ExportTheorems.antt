-- What `export` leaves, for its readers: the bytes of the answer's length are a text that reads back, has the record's elements and tells the record.
use mathlib.Core.Path.{◌≡◌, refl, sym, ap, ◌∙◌}
use mathlib.Core.List.{List, [], ◌++◌, map}
use Prim.Native.Nat.{ℕ, ◌+◌, ◌-◌, ◌≤◌}
use native.Mathlib.Omega.{arith}
use native.Mathlib.Nat.{sub-zero}
use lib.Dec.{leb}
use lib.ListN.{length, take, drop}
use lib.Seq.{take_at, drop_at}
use Rattle.modes.specs.declared.Written.{Written}
use Rattle.std.specs.Prelude.{Result, Ok}
use Rattle.modes.specs.declared.Refusal.{Refusal}
use Rattle.modes.specs.Answers.{none, output_too_short, wrote, number_in}
use Rattle.modes.specs.Every.{Every}
use Rattle.modes.specs.Terms.{creations, annihilations}
use Rattle.modes.specs.Refusals.{need, or_else}
use Rattle.modes.proofs.Every.{every_both}
use Rattle.modes.proofs.Sums.{by_nothing}
use Rattle.modes.proofs.Refusals.{neither, either_way}
use Rattle.lent.specs.Bytes.{zeros}
use Rattle.lent.specs.Outputs.{Output, refused_output, filled_output, Gives}
use Rattle.products.specs.Operators.{element}
use Rattle.record.specs.Layout.{modes_of, terms_of}
use Rattle.record.specs.Operands.{read_as}
use Rattle.record.specs.Refusals.{refusal_of}
use Rattle.record.proofs.Accepted.{accepted_canonical}
use Rattle.record.proofs.Inverse.{Small}
use Rattle.lines.specs.Grammar.{line_feed, pieces, lines_of}
use Rattle.lines.specs.Refusals.{lines_refusal, text_refusal}
use Rattle.expand.specs.Meaning.{lines_element}
use Rattle.term_lines.specs.Written.{term_text, terms_text}
use Rattle.term_lines.specs.Ladders.{line_of_term}
use Rattle.term_lines.proofs.Lengths.{longest_text}
use Rattle.term_lines.proofs.Reading.{text_read, text_unbroken}
use Rattle.term_lines.proofs.Accepted.{text_accepted}
use Rattle.term_lines.proofs.Meaning.{text_elements, same_text}
use Rattle.text.specs.Export.{export_of}
use Rattle.record.proofs.Outputs.{written_len}
use Rattle.text.proofs.Exports.{ends_at, export_fills}

-- ---- a call that is not refused

module _ (room : ℕ) (a : List ℕ) (r : Written) (after : List ℕ) (g : Gives (export_of room (read_as 1 a)) (Ok r) after) where
  abbrev text_of : List ℕ
  text_of = terms_text (terms_of a)

  given : (or_else (refusal_of 1 a) (need (leb (length text_of) room) output_too_short) ≡ none) × (export_of room (read_as 1 a) ≡ filled_output room 0 text_of)
  unfolding export_of
  given =
      let judged = or_else (refusal_of 1 a) (need (leb (length text_of) room) output_too_short) in
      either_way judged (refused_output room) (filled_output room 0 text_of)
      (λ o. Ok r ≡ o.answer → (judged ≡ none) × (o ≡ filled_output room 0 text_of)) (λ z e. (z, refl)) (λ f q e. cc) g.answer

  bytes_are : after ≡ text_of ++ zeros (room - length text_of)
  bytes_are = g.bytes ∙ ap (λ (o : Output). o.bytes) given.1

  length_is : r.len ≡ length text_of
  length_is = written_len r (length text_of) 0 (g.answer ∙ ap (λ (o : Output). o.answer) given.1)

  pub export_accepted : refusal_of 1 a ≡ none
  export_accepted = (neither _ _ given.0).0

  -- the bytes of the answer's length are the text of the record's terms, and zeros stand past it
  pub export_text : take r.len after ≡ terms_text (terms_of a)
  export_text = ap (take r.len) bytes_are ∙ take_at text_of (zeros (room - length text_of)) r.len (sym length_is)

  pub export_clean : drop r.len after ≡ zeros (room - r.len)
  export_clean =
      ap (drop r.len) bytes_are ∙ drop_at text_of (zeros (room - length text_of)) r.len (sym length_is)
      ∙ ap (λ (n : ℕ). zeros (room - n)) (sym length_is)

  -- no more than 2^20 bytes
  pub export_longest : r.len ≤ 1048576
  export_longest = let k = accepted_canonical 1 a export_accepted in omega (arith, length_is, longest_text (terms_of a) k.few k.light)

  -- THE EXPORT reads back: its lines are the record's terms, in order, and 16 never refuses it
  pub export_read : lines_of (take r.len after) ≡ map line_of_term (terms_of a)
  export_read = ap lines_of export_text ∙ text_read (terms_of a)

  pub export_unbroken : (m i : ℕ) → number_in (lines_refusal m i (pieces line_feed (take r.len after))) ≡ 16 → ⊥
  export_unbroken m i = rw export_text (text_unbroken m i (terms_of a))

  -- where no term has more than 12 ladders, nothing refuses it as a text on the record's modes
  pub export_accepted_text : Every (λ t. creations t + annihilations t ≤ 12) (terms_of a) → text_refusal (modes_of a) (take r.len after) ≡ none
  export_accepted_text h =
      ap (text_refusal (modes_of a)) export_text
      ∙ text_accepted (modes_of a) (terms_of a) (every_both (terms_of a) (accepted_canonical 1 a export_accepted).inside h)

  -- it has the record's elements, ladder by ladder
  pub export_elements : (bra ket : ℕ) → lines_element bra ket (lines_of (take r.len after)) ≡ element bra ket (terms_of a)
  export_elements bra ket = ap (λ (l : List ℕ). lines_element bra ket (lines_of l)) export_text ∙ text_elements bra ket (terms_of a)

-- THE EXPORT TELLS THE RECORD: of two records on one number of modes, neither of them refused, equal texts are of equal bytes
pub export_tells : (room place : ℕ) (a b : List ℕ) (r s : Written) (x y : List ℕ) → Gives (export_of room (read_as 1 a)) (Ok r) x → Gives (export_of place (read_as 1 b)) (Ok s) y
    → Small a → Small b → modes_of a ≡ modes_of b → take r.len x ≡ take s.len y → a ≡ b
export_tells room place a b r s x y g h small_a small_b m e =
    same_text 1 1 a b small_a small_b (export_accepted room a r x g) (export_accepted place b s y h) m
    (sym (export_text room a r x g) ∙ e ∙ export_text place b s y h)

-- ---- an accepted record

module _ (room : ℕ) (a : List ℕ) (fine : refusal_of 1 a ≡ none) where
  -- an output of 2^20 bytes is enough for every record
  pub export_fits : 1048576 ≤ room → (r : Result Written Refusal) (after : List ℕ) → Gives (export_of room (read_as 1 a)) r after → r ≡ ends_at (length (terms_text (terms_of a)))
  export_fits h r after g =
      let k = accepted_canonical 1 a fine in
      let long = longest_text (terms_of a) k.few k.light in
      g.answer ∙ ap (λ (o : Output). o.answer) (sym (export_fills room a fine (omega arith)))

  -- a record without terms gives the empty text, in every output
  pub export_nothing : terms_of a ≡ [] → (r : Result Written Refusal) (after : List ℕ) → Gives (export_of room (read_as 1 a)) r after → (r ≡ Ok (wrote 0 0)) × (after ≡ zeros room)
  export_nothing e r after g =
      let empty : terms_text (terms_of a) ≡ [] = by_nothing ◌++◌ [] term_text e in
      let is : export_of room (read_as 1 a) ≡ filled_output room 0 [] =
      sym (export_fills room a fine (omega (arith, ap length empty))) ∙ ap (filled_output room 0) empty in
      (g.answer ∙ ap (λ (o : Output). o.answer) is, g.bytes ∙ ap (λ (o : Output). o.bytes) is ∙ ap zeros (sub-zero room))
