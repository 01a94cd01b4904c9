-- `text::bring`: each way out gives what the definition says.
use mathlib.Core.Path.{◌≡◌, refl, sym, ap, ◌∙◌}
use mathlib.Core.Bool.{Bool, true, false, cond, ◌&&◌}
use mathlib.Core.List.{List, [], ◌∷◌}
use mathlib.Core.Logic.{⊎_elim}
use Prim.Native.Nat.{ℕ, ◌*◌, ◌/◌, ◌^◌, ◌≤◌, ◌<◌}
use native.Mathlib.Nat.{mul-div_cancel_left, le_refl}
use native.Mathlib.Omega.{arith}
use lib.Dec.{eqb, leb, lit<}
use lib.IntN.{pos, nat_abs}
use lib.ListN.{length}
use Rattle.modes.specs.declared.Refusal.{Refusal}
use Rattle.modes.specs.declared.Term.{Term}
use Rattle.std.specs.Prelude.{Err}
use Rattle.modes.specs.declared.Reason.TheVariants.{Malformed}
use Rattle.modes.specs.Answers.{Verdict, refusal, none, product_too_heavy, rows_do_not_fit}
use Rattle.modes.specs.Refusals.{need}
use Rattle.modes.specs.Sums.{sum_by, amount_of}
use Rattle.modes.proofs.Refusals.{neither, or_second}
use Rattle.modes.proofs.Digits.{lt_or_ge}
use Rattle.lent.specs.Rows.{rows_at}
use Rattle.lent.specs.Outputs.{refused_output}
use Rattle.decimals.specs.Ceiling.{up_to}
use Rattle.record.specs.Terms.{weight}
use Rattle.record.specs.Coefficients.{coeff_in}
use Rattle.record.specs.Outputs.{record_output}
use Rattle.record.proofs.Outputs.{refused_earlier, bound_kept}
use Rattle.normal.specs.Normal.{normal}
use Rattle.results.specs.Results.{result_refusal, result_of}
use Rattle.collect.specs.KeyWeights.{key_weight, Light}
use Rattle.collect.specs.Collected.{Collected}
use Rattle.lines.specs.Grammar.{pieces, line_feed, lines_of}
use Rattle.lines.specs.Refusals.{text_refusal}
use Rattle.lines.proofs.Fine.{lines_wider}
use Rattle.expand.proofs.Sizes.{lines_number, lines_weight}
use Rattle.scan.specs.Sums.{spread, burden}
use Rattle.text.specs.Import.{early_refusal, import_of}
use Rattle.text.specs.Gathering.{Readable, text_rows, Gathered}
use Rattle.text.proofs.Refusing.{bad_modes, modes_range, modes_refused, too_many_modes}

-- what a term has at one pair of words is no more than its coefficient
coeff_in_below : (cre ann : ℕ) (t : Term) → nat_abs (coeff_in cre ann t) ≤ nat_abs t.coeff
coeff_in_below cre ann t = go (eqb t.ann ann && eqb t.cre cre)
  where
    go : (b : Bool) → nat_abs (cond b t.coeff (pos 0)) ≤ nat_abs t.coeff
    go true = le_refl (nat_abs t.coeff)
    go false = omega arith

-- what one pair of words weighs is part of the whole weight
key_below : (cre ann : ℕ) (ts : List Term) → key_weight cre ann ts ≤ weight ts
unfolding key_weight weight sum_by
key_below cre ann [] = omega arith
key_below cre ann (t ∷ ts) = omega (arith, coeff_in_below cre ann t, key_below cre ann ts)

-- a text that nothing refuses before it is multiplied out
pub record Early (m work : ℕ) (text : List ℕ) : Type 0 where
  pub some : 1 ≤ m
  pub most : m ≤ 64
  pub fine : text_refusal m text ≡ none
  pub light : amount_of burden (lines_of text) ≤ 2 ^ 60
  pub fits : 48 * amount_of spread (lines_of text) ≤ work

module _ (m work : ℕ) (text : List ℕ) (z : early_refusal m work text ≡ none) where
  pub early : Early m work text
  early =
      let one = neither (bad_modes m) _ z in
      let two = neither (text_refusal m text) _ one.1 in
      let three = neither (need (leb (amount_of burden (lines_of text)) (2 ^ 60)) product_too_heavy) _ two.1 in
      let range = modes_range m one.0 in
      record {
        some = range.0;
        most = range.1;
        fine = two.0;
        light = bound_kept _ (2 ^ 60) product_too_heavy three.0;
        fits = bound_kept _ work rows_do_not_fit three.1;
      }

  pub readable : Readable text work
  readable =
      let known = early in
      record { fine = lines_wider m 64 0 known.most (pieces line_feed text) known.fine; light = known.light; fits = omega (arith, known.fits) }

  module _ (l : List ℕ) (len : length l ≡ work) (used : ℕ) (g : Gathered text l used) where
    number : used / 24 ≡ length (text_rows text)
    number = ap (λ (x : ℕ). x / 24) g.ends ∙ mul-div_cancel_left (length (text_rows text)) (lit< tt)

    stands : rows_at l 0 (used / 24) ≡ text_rows text
    stands = ap (rows_at l 0) number ∙ g.rows

    light : Light (rows_at l 0 (used / 24))
    light cre ann = rw stands (omega (arith, key_below cre ann (text_rows text), lines_weight (lines_of text), early.light))

    pub collectable : (24 * (used / 24) ≤ length l) × Light (rows_at l 0 (used / 24))
    collectable = (omega (arith, number, lines_number (lines_of text), early.fits, len), light)

    pub delivered : (room : ℕ) (k : List ℕ) (n : ℕ) → Collected (used / 24) l k n → result_of room 0 none m (rows_at k 0 n) ≡ import_of m work room text
    delivered room k n c =
        let joined : rows_at k 0 n ≡ normal (text_rows text) = c.rows ∙ ap normal stands in
        let late = result_refusal room (length (normal (text_rows text))) (weight (normal (text_rows text))) in
        ap (result_of room 0 none m) joined
        ∙ ap (λ (r : Verdict). record_output room 0 r m (normal (text_rows text))) (or_second none late refl ∙ sym (or_second (early_refusal m work text) late z))

pub early_refused : (m work room : ℕ) (text : List ℕ) (r : Refusal) → Err r ≡ early_refusal m work text → refused_output room r ≡ import_of m work room text
early_refused m work room text r e = refused_earlier room 0 (early_refusal m work text) _ m (normal (text_rows text)) r (sym e)

-- a mode count as far as the ceiling is refused as the count is, and is the count where it is not
pub modes_capped : (m work room : ℕ) (text : List ℕ) → import_of (up_to m) work room text ≡ import_of m work room text
modes_capped m work room text = ⊎_elim above below (lt_or_ge (2 ^ 60) m)
  where
    refused : (k : ℕ) → 64 < k → refused_output room (refusal Malformed 1 0) ≡ import_of k work room text
    refused k h =
        early_refused k work room text (refusal Malformed 1 0) (modes_refused k work text (refusal Malformed 1 0) (too_many_modes k h))

    above : 2 ^ 60 < m → import_of (up_to m) work room text ≡ import_of m work room text
    above h = sym (refused (up_to m) (omega arith)) ∙ refused m (omega arith)

    below : m ≤ 2 ^ 60 → import_of (up_to m) work room text ≡ import_of m work room text
    below h = let same : up_to m ≡ m = omega arith in rw same
