-- The walk over the lines of a text: what one line adds, what holds between two lines, and what each way out shows.
use Rattle.std.specs.Prelude.{Some, None, Result, Ok, Err}
use Rattle.std.proofs.lemmas.Option.{cond_some}
use Rattle.decimals.proofs.Numbers.{cond_none}
use mathlib.Core.Path.{◌≡◌, refl, sym, ap, ◌∙◌}
use mathlib.Core.Bool.{true}
use mathlib.Core.List.{List}
use mathlib.Core.Logic.{⊎_elim}
use Prim.Native.Nat.{ℕ, suc, ◌+◌, ◌*◌, ◌^◌, ◌≤◌, ◌<◌}
use native.Mathlib.Nat.{mul-le-mul, le_refl, mul-one}
use native.Mathlib.Numerals.{add-one}
use native.Mathlib.Omega.{arith}
use lib.Dec.{leb}
use lib.IntN.{nat_abs}
use lib.ListN.{length, drop}
use lib.Pow.{pow_mono}
use borrow.Author.Tests.{leb-true}
use Rattle.modes.specs.declared.Refusal.{Refusal}
use Rattle.modes.specs.declared.Reason.TheVariants.{WordOutside, BadLine, TooManyLadders}
use Rattle.modes.specs.Answers.{Verdict, refusal, none}
use Rattle.modes.specs.Refusals.{need, or_else}
use Rattle.modes.specs.Sums.{sum_by, amount_of}
use Rattle.modes.proofs.Digits.{lt_or_ge}
use Rattle.modes.proofs.Refusals.{or_first, or_second, neither, needed, unless_so, unless_not}
use Rattle.decimals.specs.Ceiling.{up_to}
use Rattle.lines.specs.Grammar.{Line, line_feed, is_line, line_of, lines_of}
use Rattle.lines.specs.Refusals.{all_below, line_refusal, lines_refusal, text_refusal}
use Rattle.lines.specs.Reading.{front, line_read}
use Rattle.lines.specs.declared.ReadLine.{ReadLine}
use Rattle.lines.proofs.Texts.{pieces_from, lines_from, line_at, last_refused, next_line, next_refusal, no_line, no_refusal}
use Rattle.scan.specs.Sums.{spread, burden}
use Rattle.scan.specs.Scanned.{summed_text, scanned_of}
use Rattle.scan.specs.declared.Sums.{Sums}

-- ---- one line

-- 2 and 17 of a line read, in this order
abbrev pub judged : ReadLine → ℕ → Verdict
judged x i = or_else (need x.inside (refusal WordOutside 1 i)) (need (leb x.ladders 12) (refusal TooManyLadders 0 i))

module _ (x : ReadLine) (i : ℕ) where
  -- a line that is not refused has at most 12 ladders
  pub few : judged x i ≡ none → x.ladders ≤ 12
  few e =
      let last = (neither (need x.inside (refusal WordOutside 1 i)) _ e).1 in
      leb-true x.ladders 12 (needed (leb x.ladders 12) (refusal TooManyLadders 0 i) last)

-- a product
module _ (c s : ℕ) (h : 0 < s) where
  -- a factor as far as the ceiling
  pub burden_capped : up_to (up_to c * s) ≡ up_to (c * s)
  burden_capped = ⊎_elim under over (lt_or_ge (2 ^ 60) c)
    where
      under : 2 ^ 60 < c → up_to (up_to c * s) ≡ up_to (c * s)
      under l =
          let top : up_to c ≡ 2 ^ 60 + 1 = omega arith in
          omega (arith, mul-le-mul (le_refl (up_to c)) h, mul-le-mul (le_refl c) h, mul-one (up_to c), mul-one c)

      over : c ≤ 2 ^ 60 → up_to (up_to c * s) ≡ up_to (c * s)
      over l = let same : up_to c ≡ c = omega arith in rw same

pub rows_some : (n : ℕ) → 0 < 2 ^ n
rows_some n = let least : 2 ^ 0 ≤ 2 ^ n = pow_mono {i = 0} (omega arith) in omega arith

-- ---- between two lines

join_burdens : (a b k t later : ℕ) → up_to k ≡ up_to b → t ≡ up_to (a + k) → up_to (a + (b + later)) ≡ up_to (t + later)
join_burdens a b k t later e f = omega arith

-- before the i-th line, which starts at `at`
pub record Going (m : ℕ) (text : List ℕ) (s : Sums) (at i : ℕ) : Type 0 where
  pub inside : at ≤ length text
  pub early : i ≤ at
  pub burden_low : s.burden ≤ 2 ^ 60 + 1
  pub spread_low : s.spread ≤ 2 ^ 60 + 1
  pub rest : text_refusal m text ≡ lines_refusal m i (pieces_from text at)
  pub burdens : up_to (amount_of burden (lines_of text)) ≡ up_to (s.burden + amount_of burden (lines_from text at))
  pub spreads : up_to (amount_of spread (lines_of text)) ≡ up_to (s.spread + amount_of spread (lines_from text at))

module _ (m : ℕ) (text : List ℕ) (s : Sums) (at i : ℕ) (g : Going m text s at i) where
  module _ (end : ℕ) (e : end ≡ at + length (front line_feed (drop at text))) where
    -- the last line feed is missing
    pub last_open : at < length text → end ≡ length text → text_refusal m text ≡ Err (refusal BadLine 0 i)
    last_open h k = g.rest ∙ last_refused text at end e h k m i

    module _ (h : end < length text) where
      abbrev line : List ℕ
      line = line_at text at end e

      next : text_refusal m text ≡ or_else (line_refusal m i line) (lines_refusal m (suc i) (pieces_from text (end + 1)))
      next = g.rest ∙ next_refusal text at end e h m i

      -- no line
      pub line_broken : None ≡ line_read m line → text_refusal m text ≡ Err (refusal BadLine 0 i)
      unfolding line_refusal or_else
      line_broken n = next ∙ rw (cond_none (is_line line) _ n)

      module _ (x : ReadLine) (ex : Some x ≡ line_read m line) (r : Verdict) (er : r ≡ judged x i) where
        good : is_line line ≡ true
        good = (cond_some (is_line line) _ _ (sym ex)).0

        read : record {
          inside = all_below m (line_of line).ladders;
          ladders = length (line_of line).ladders;
          magnitude = up_to (nat_abs (line_of line).coeff);
        } ≡ x
        read = (cond_some (is_line line) _ _ (sym ex)).1

        line_judged : line_refusal m i line ≡ r
        unfolding line_refusal
        line_judged = rw good (or_second none _ refl ∙ ap (λ (y : ReadLine). judged y i) read ∙ sym er)

        turn : text_refusal m text ≡ or_else r (lines_refusal m (suc i) (pieces_from text (end + 1)))
        turn = next ∙ ap (λ (f : Verdict). or_else f (lines_refusal m (suc i) (pieces_from text (end + 1)))) line_judged

        pub line_refused : (r ≡ none → ⊥) → text_refusal m text ≡ r
        line_refused n = turn ∙ or_first r _ n

        pub goes : r ≡ none → (t : Sums) → t.burden ≡ up_to (s.burden + x.magnitude * 2 ^ x.ladders) → t.spread ≡ up_to (s.spread + 2 ^ x.ladders)
            → Going m text t (end + 1) (i + 1)
        unfolding sum_by
        goes z t eb es =
            let c = nat_abs (line_of line).coeff in
            let k : 2 ^ x.ladders ≡ spread (line_of line) = ap (λ (y : ReadLine). 2 ^ y.ladders) (sym read) in
            let magnitude : x.magnitude ≡ up_to c = ap (λ (y : ReadLine). y.magnitude) (sym read) in
            let heavy : up_to (x.magnitude * 2 ^ x.ladders) ≡ up_to (burden (line_of line)) =
            rw (magnitude, k) (burden_capped c (spread (line_of line)) (rows_some (length (line_of line).ladders))) in
            let all_burdens = g.burdens ∙ ap (λ (xs : List Line). up_to (s.burden + amount_of burden xs)) (next_line text at end e h) in
            let all_spreads = g.spreads ∙ ap (λ (xs : List Line). up_to (s.spread + amount_of spread xs)) (next_line text at end e h) in
            record {
              inside = omega arith;
              early = omega (arith, g.early, e);
              burden_low = omega (arith, eb);
              spread_low = omega (arith, es);
              rest = turn ∙ or_second r _ z ∙ ap (λ (j : ℕ). lines_refusal m j (pieces_from text (end + 1))) (sym (add-one i));
              burdens = all_burdens
                  ∙ join_burdens s.burden (burden (line_of line)) (x.magnitude * 2 ^ x.ladders) t.burden (amount_of burden (lines_from text (end + 1))) heavy eb;
              spreads = all_spreads ∙ join_burdens s.spread (spread (line_of line)) (2 ^ x.ladders) t.spread (amount_of spread (lines_from text (end + 1))) (ap up_to k) es;
            }

  -- all lines looked at
  pub scanned : length text ≤ at → ◌≡◌ {A = Result Sums Refusal} (Ok s) (scanned_of m text)
  unfolding sum_by
  scanned h =
      let fine : text_refusal m text ≡ none = g.rest ∙ no_refusal text at h m i in
      let none_left = no_line text at h in
      let all_burdens = g.burdens ∙ ap (λ (xs : List Line). up_to (s.burden + amount_of burden xs)) none_left in
      let all_spreads = g.spreads ∙ ap (λ (xs : List Line). up_to (s.spread + amount_of spread xs)) none_left in
      let eb : s.burden ≡ up_to (amount_of burden (lines_of text)) = omega (arith, all_burdens, g.burden_low) in
      let es : s.spread ≡ up_to (amount_of spread (lines_of text)) = omega (arith, all_spreads, g.spread_low) in
      (λ j. Ok (record { burden = eb j; spread = es j })) ∙ sym (unless_not _ Err (Ok (summed_text text)) fine)

pub text_refused : (m : ℕ) (text : List ℕ) (r : Refusal) → text_refusal m text ≡ Err r → Err r ≡ scanned_of m text
text_refused m text r e = sym (unless_so (text_refusal m text) Err _ r e)
