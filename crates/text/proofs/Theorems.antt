-- What `import` leaves where it does not refuse: a record that is accepted, with the elements that the lines give, ladder by ladder.
use mathlib.Core.Path.{◌≡◌, sym, ap, ◌∙◌, subst}
use mathlib.Core.Bool.{true}
use mathlib.Core.List.{List}
use Prim.Native.Nat.{ℕ}
use lib.ListN.{length, take}
use Rattle.modes.specs.declared.Written.{Written}
use Rattle.std.specs.Prelude.{Ok}
use Rattle.modes.specs.Answers.{none}
use Rattle.modes.specs.Every.{Every}
use Rattle.modes.proofs.Every.{every_map}
use Rattle.lent.specs.Outputs.{Gives}
use Rattle.products.specs.Operators.{element}
use Rattle.record.specs.Terms.{weight}
use Rattle.record.specs.Layout.{encode, modes_of, terms_of}
use Rattle.record.specs.Refusals.{refusal_of}
use Rattle.record.specs.Canonical.{Canonical}
use Rattle.record.proofs.Outputs.{none_refused, output_record, output_accepted, output_modes, output_terms}
use Rattle.normal.specs.Normal.{normal}
use Rattle.normal.proofs.Totals.{element_normal}
use Rattle.results.specs.Results.{result_refusal}
use Rattle.results.proofs.Results.{result_canonical}
use Rattle.lines.specs.Grammar.{line_feed, pieces, line_of, ended, lines_of}
use Rattle.lines.specs.Refusals.{all_below, text_refusal}
use Rattle.lines.proofs.Fine.{lines_fine, lines_wider}
use Rattle.expand.specs.Meaning.{lines_element}
use Rattle.expand.proofs.Acting.{lines_elements}
use Rattle.expand.proofs.Sizes.{lines_inside}
use Rattle.text.specs.Import.{early_refusal, import_of}
use Rattle.text.specs.Gathering.{text_rows}
use Rattle.text.proofs.Bringing.{Early, early}

-- every line's modes are below m
lines_below : (m : ℕ) (text : List ℕ) → text_refusal m text ≡ none → Every (λ x. all_below m x.ladders ≡ true) (lines_of text)
lines_below m text z = every_map line_of (ended (pieces line_feed text)) (λ l f. f.below) (lines_fine m 0 (pieces line_feed text) z)

-- ---- the bytes that the call leaves where it is not refused

module _ (m work room : ℕ) (text : List ℕ) (r : Written) (after : List ℕ) (g : Gives (import_of m work room text) (Ok r) after) where
  fine : (early_refusal m work text ≡ none)
      × (result_refusal room (length (normal (text_rows text))) (weight (normal (text_rows text))) ≡ none)
  fine = none_refused room 0 (early_refusal m work text) _ m (normal (text_rows text)) r after g

  told : Early m work text
  told = early m work text fine.0

  form : Canonical m (normal (text_rows text))
  form =
      result_canonical m (text_rows text) told.some told.most (lines_inside m (lines_of text) (lines_below m text told.fine)) room fine.1

  -- the output's record is accepted
  pub import_accepted : (o : ℕ) → refusal_of o (take r.len after) ≡ none
  import_accepted = output_accepted room 0 (early_refusal m work text) _ m (normal (text_rows text)) r after g form

  pub import_modes : modes_of (take r.len after) ≡ m
  import_modes = output_modes room 0 (early_refusal m work text) _ m (normal (text_rows text)) r after g form

  pub import_terms : terms_of (take r.len after) ≡ normal (text_rows text)
  import_terms = output_terms room 0 (early_refusal m work text) _ m (normal (text_rows text)) r after g form

  -- its terms are a canonical form, and its bytes are theirs
  pub import_canonical : Canonical m (terms_of (take r.len after))
  import_canonical = subst (Canonical m) (sym import_terms) form

  pub import_record : take r.len after ≡ encode m (terms_of (take r.len after))
  import_record = output_record room 0 (early_refusal m work text) _ m (normal (text_rows text)) r after g ∙ ap (encode m) (sym import_terms)

  -- THE IMPORT: at every bra and ket the record left has the sum over the lines of what each gives, its ladders acting one by one, the rightmost first
  pub import_elements : (bra ket : ℕ) → element bra ket (terms_of (take r.len after)) ≡ lines_element bra ket (lines_of text)
  import_elements bra ket =
      ap (element bra ket) import_terms ∙ element_normal bra ket (text_rows text)
      ∙ lines_elements bra ket (lines_of text) (lines_below 64 text (lines_wider m 64 0 told.most (pieces line_feed text) told.fine))
