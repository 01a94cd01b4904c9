-- Numbers that never refuse a text: 9, since what 8 lets pass is light enough, and 11 where the output holds the longest record.
use mathlib.Core.Path.{◌≡◌, sym, ap, ◌∙◌}
use mathlib.Core.List.{List, [], ◌∷◌}
use mathlib.Core.Logic.{◌⊎◌, inl, inr}
use Prim.Native.Nat.{ℕ, suc, ◌*◌, ◌^◌, ◌≤◌, ◌<◌}
use native.Mathlib.Nat.{le_trans}
use native.Mathlib.Omega.{arith}
use lib.Dec.{eqb, leb}
use lib.ListN.{length}
use borrow.Author.Tests.{le-leb, lt-leb}
use Rattle.modes.specs.declared.Refusal.{Refusal}
use Rattle.modes.specs.declared.Written.{Written}
use Rattle.modes.specs.declared.Term.{Term}
use Rattle.std.specs.Prelude.{Result, Err}
use Rattle.modes.specs.declared.Reason.TheVariants.{Malformed, WordOutside, RowsDoNotFit, ProductTooHeavy, ResultTooHeavy, TooManyTerms, OutputTooShort, BadLine, TooManyLadders}
use Rattle.modes.specs.Answers.{Verdict, none, number_in, too_many_terms, result_too_heavy, output_too_short}
use Rattle.modes.specs.Refusals.{need, or_else}
use Rattle.modes.specs.Spaces.{space_of, is_made}
use Rattle.modes.specs.Sums.{amount_of}
use Rattle.modes.proofs.Refusals.{by_verdict, or_first, or_second, either_way}
use Rattle.modes.proofs.Never.{Never, never_none, never_or, never_need}
use Rattle.modes.proofs.Digits.{lt_or_ge}
use Rattle.lent.specs.Outputs.{refused_output, Gives}
use Rattle.record.specs.Terms.{weight}
use Rattle.record.specs.Layout.{record_length}
use Rattle.normal.specs.Normal.{normal}
use Rattle.normal.proofs.Sizes.{weight_normal}
use Rattle.results.specs.Results.{result_refusal}
use Rattle.lines.specs.Grammar.{line_feed, pieces, is_line, line_of, lines_of}
use Rattle.lines.specs.Refusals.{all_below, line_refusal, lines_refusal}
use Rattle.expand.proofs.Sizes.{lines_weight}
use Rattle.scan.specs.Sums.{spread, burden}
use Rattle.text.specs.Import.{early_refusal, import_of}
use Rattle.text.specs.Gathering.{text_rows}
use Rattle.text.proofs.Bringing.{early}

-- a number between those of the tests that come before the result: 1, 2, 7 and 8 below it, 16 and 17 above
module _ (k : ℕ) (low : 8 < k) (high : k < 16) where
  line_never : (m i : ℕ) (l : List ℕ) → Never k (line_refusal m i l)
  unfolding line_refusal
  line_never m i l =
      never_or (never_need (is_line l) BadLine 0 i (omega arith) (λ e. absurd (omega arith)))
      (never_or (never_need (all_below m (line_of l).ladders) WordOutside 1 i (omega arith) (λ e. absurd (omega arith)))
      (never_need (leb (length (line_of l).ladders) 12) TooManyLadders 0 i (omega arith) (λ e. absurd (omega arith))))

  lines_never : (m i : ℕ) (ls : List (List ℕ)) → Never k (lines_refusal m i ls)
  unfolding lines_refusal
  lines_never m i [] = never_none k (omega arith)
  lines_never m i (l ∷ []) = never_need (eqb (length l) 0) BadLine 0 i (omega arith) (λ e. absurd (omega arith))
  lines_never m i (l ∷ l' ∷ ls) = never_or (line_never m i l) (lines_never m (suc i) (l' ∷ ls))

  early_never : (m work : ℕ) (text : List ℕ) → Never k (early_refusal m work text)
  early_never m work text =
      never_or (never_need (is_made (space_of m)) Malformed 1 0 (omega arith) (λ e. absurd (omega arith)))
      (never_or (lines_never m 0 (pieces line_feed text))
      (never_or (never_need (leb (amount_of burden (lines_of text)) (2 ^ 60)) ProductTooHeavy 0 0 (omega arith) (λ e. absurd (omega arith)))
      (never_need (leb (48 * amount_of spread (lines_of text)) work) RowsDoNotFit 0 0 (omega arith) (λ e. absurd (omega arith)))))

module _ (m work room : ℕ) (text : List ℕ) where
  abbrev late : Verdict
  late = result_refusal room (length (normal (text_rows text))) (weight (normal (text_rows text)))

  late_nine : early_refusal m work text ≡ none → Never 9 late
  unfolding result_refusal
  late_nine z =
      let rows = normal (text_rows text) in
      let light : weight rows ≤ 2 ^ 60 = le_trans (weight_normal (text_rows text)) (le_trans (lines_weight (lines_of text)) (early m work text z).light) in
      never_or (never_need (leb (length rows) 2048) TooManyTerms 0 0 (omega arith) (λ e. absurd (omega arith)))
      (rw (le-leb (weight rows) (2 ^ 60) light)
      (never_or (never_none 9 (omega arith)) (never_need (leb (record_length (length rows)) room) OutputTooShort 0 0 (omega arith) (λ e. absurd (omega arith)))))

  late_eleven : 49184 ≤ room → Never 11 late
  unfolding result_refusal
  late_eleven long = go (lt_or_ge 2048 (length (normal (text_rows text))))
    where
      rows : List Term
      rows = normal (text_rows text)

      ten : Verdict
      ten = need (leb (length rows) 2048) too_many_terms

      go : (2048 < length rows) ⊎ (length rows ≤ 2048)
          → Never 11 (or_else ten (or_else (need (leb (weight rows) (2 ^ 60)) result_too_heavy) (need (leb (record_length (length rows)) room) output_too_short)))
      go (inl many) = rw (lt-leb (length rows) 2048 many, or_first (Err too_many_terms) _ (λ e. cc)) (record { not = λ e. absurd (omega arith) })
      go (inr few) =
          never_or (never_need (leb (length rows) 2048) TooManyTerms 0 0 (omega arith) (λ e. absurd (omega arith)))
          (never_or (never_need (leb (weight rows) (2 ^ 60)) ResultTooHeavy 0 0 (omega arith) (λ e. absurd (omega arith)))
          (rw (le-leb (record_length (length rows)) room (omega arith)) (never_none 11 (omega arith))))

  -- a number that neither the tests before the result have nor, where these pass, those of the result
  never : (k : ℕ) → 0 < k → Never k (early_refusal m work text) → (early_refusal m work text ≡ none → Never k late)
      → (r : Result Written Refusal) (after : List ℕ) → Gives (import_of m work room text) r after → number_in r ≡ k → ⊥
  never k some first then r after g e =
      let all : Never k (or_else (early_refusal m work text) late) =
      by_verdict (early_refusal m work text) (λ z. rw (or_second (early_refusal m work text) late z) (then z))
      (λ f q. rw (or_first (early_refusal m work text) late (λ z. cc)) first) in
      either_way (or_else (early_refusal m work text) late) (refused_output room) _ (λ o. number_in o.answer ≡ k → ⊥) (λ z. (never_none k some).not)
      (λ f q h. all.not (ap number_in q ∙ h)) (ap number_in (sym g.answer) ∙ e)

  -- NEVER 9, whatever the modes, the text and what is lent
  pub import_never_nine : (r : Result Written Refusal) (after : List ℕ) → Gives (import_of m work room text) r after → number_in r ≡ 9 → ⊥
  import_never_nine = never 9 (omega arith) (early_never 9 (omega arith) (omega arith) m work text) late_nine

  -- and never 11 for an output of 49,184 bytes or more
  pub import_never_eleven : 49184 ≤ room → (r : Result Written Refusal) (after : List ℕ) → Gives (import_of m work room text) r after → number_in r ≡ 11 → ⊥
  import_never_eleven long = never 11 (omega arith) (early_never 11 (omega arith) (omega arith) m work text) (λ z. late_eleven long)
