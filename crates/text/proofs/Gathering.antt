-- The walk that multiplies out line after line: what holds between two lines.
use mathlib.Core.Path.{◌≡◌, refl, sym, ap, ◌∙◌}
use mathlib.Core.List.{List, [], ◌++◌, append-nil, append_assoc}
use Prim.Native.Nat.{ℕ, suc, ◌+◌, ◌*◌, ◌^◌, ◌≤◌, ◌<◌}
use native.Mathlib.Nat.{mul-le-mul, le_refl, mul-one}
use native.Mathlib.Omega.{arith}
use lib.Dec.{lit<}
use lib.IntN.{nat_abs}
use lib.ListN.{length, drop, length-append}
use Rattle.modes.specs.Answers.{none}
use Rattle.modes.specs.declared.Term.{Term}
use Rattle.modes.specs.Sums.{sum_by, amount_of, list_of}
use Rattle.lent.specs.Bytes.{put}
use Rattle.lent.specs.Rows.{rows_bytes, rows_at}
use Rattle.lent.proofs.Puts.{length_put}
use Rattle.lent.proofs.RowLaws.{length_rows, rows_put_all}
use Rattle.modes.proofs.Refusals.{neither}
use Rattle.lines.specs.Grammar.{Line, line_feed, line_of}
use Rattle.lines.specs.Refusals.{line_refusal, lines_refusal}
use Rattle.lines.specs.Reading.{front}
use Rattle.lines.proofs.Fine.{Fine, none_fine}
use Rattle.lines.proofs.Texts.{pieces_from, lines_from, line_at, last_refused, next_line, next_refusal, no_line}
use Rattle.expand.specs.Rows.{rows_of}
use Rattle.expand.specs.Writing.{LineWritable}
use Rattle.expand.proofs.Sizes.{rows_number, rows_fit}
use Rattle.scan.specs.Sums.{spread, burden}
use Rattle.scan.proofs.Scanning.{rows_some}
use Rattle.text.specs.Gathering.{Readable, text_rows, Gathered}

-- the lines before `at` are multiplied out, and their rows stand at the front of l
pub record Going (text : List ℕ) (room : ℕ) (l : List ℕ) (at used : ℕ) : Type 0 where
  pub len : length l ≡ room
  pub inside : at ≤ length text
  pub place : ℕ
  pub fine : lines_refusal 64 place (pieces_from text at) ≡ none
  pub light : amount_of burden (lines_from text at) ≤ 2 ^ 60
  pub fits : used + 24 * amount_of spread (lines_from text at) ≤ length l
  pub done : List Term
  pub all : text_rows text ≡ done ++ list_of rows_of (lines_from text at)
  pub ends : used ≡ 24 * length done
  pub rows : rows_at l 0 (length done) ≡ done

pub going_starts : (text l : List ℕ) → Readable text (length l) → Going text (length l) l 0 0
unfolding rows_at
going_starts text l g = record {
  len = refl;
  inside = omega arith;
  place = 0;
  fine = g.fine;
  light = g.light;
  fits = omega (arith, g.fits);
  done = [];
  all = refl;
  ends = refl;
  rows = refl;
}

module _ (text : List ℕ) (room : ℕ) (l : List ℕ) (at used : ℕ) (g : Going text room l at used) where
  pub going_ends : length text ≤ at → Gathered text l used
  unfolding sum_by
  going_ends h =
      let all : text_rows text ≡ g.done = g.all ∙ ap (λ (xs : List Line). g.done ++ list_of rows_of xs) (no_line text at h) ∙ append-nil g.done in
      record {
        ends = g.ends ∙ ap (λ (ts : List Term). 24 * length ts) (sym all);
        rows = ap (λ (ts : List Term). rows_at l 0 (length ts)) all ∙ g.rows ∙ sym all;
      }

  module _ (h : at < length text) (end : ℕ) (e : end ≡ at + length (front line_feed (drop at text))) (k : end ≤ length text) where
    -- a text that is not refused ends with a line feed
    pub closed : end < length text
    closed = below_or (λ last. let never = sym (last_refused text at end e h last 64 g.place) ∙ g.fine in cc)
      where
        below_or : (end ≡ length text → ⊥) → end < length text
        below_or n = omega arith

    abbrev x : Line
    x = line_of (line_at text at end e)

    judged : (line_refusal 64 g.place (line_at text at end e) ≡ none) × (lines_refusal 64 (suc g.place) (pieces_from text (end + 1)) ≡ none)
    judged = neither _ _ (sym (next_refusal text at end e closed 64 g.place) ∙ g.fine)

    this : Fine 64 (line_at text at end e)
    this = none_fine 64 g.place (line_at text at end e) judged.0

    more_burden : amount_of burden (lines_from text at) ≡ burden x + amount_of burden (lines_from text (end + 1))
    unfolding sum_by
    more_burden = ap (amount_of burden) (next_line text at end e closed)

    more_spread : amount_of spread (lines_from text at) ≡ spread x + amount_of spread (lines_from text (end + 1))
    unfolding sum_by
    more_spread = ap (amount_of spread) (next_line text at end e closed)

    light_line : nat_abs x.coeff ≤ 2 ^ 60
    light_line =
        let whole : nat_abs x.coeff * 1 ≤ burden x = mul-le-mul (le_refl (nat_abs x.coeff)) (rows_some (length x.ladders)) in
        omega (arith, whole, mul-one (nat_abs x.coeff), more_burden, g.light)

    room_left : used + 24 * 2 ^ length x.ladders ≤ length l
    room_left = omega (arith, g.fits, more_spread)

    pub writable : LineWritable (line_at text at end e) (length l) used
    writable = record { inside = this.below; light = light_line; room = room_left }

    pub going_on : (m : List ℕ) (r : ℕ) → r ≡ used + 24 * length (rows_of x) → m ≡ put l used (rows_bytes (rows_of x)) → Going text room m (end + 1) r
    unfolding sum_by
    going_on m r er em =
        let few : length (rows_of x) ≤ spread x = rows_number (record { cre = 0; ann = 0; coeff = x.coeff }) x.ladders in
        let fit = rows_fit (record { cre = 0; ann = 0; coeff = x.coeff }) x.ladders (lit< tt) (lit< tt) (omega (arith, light_line)) this.below in
        let bytes = length_rows (rows_of x) in
        let long : length m ≡ length l = ap length em ∙ length_put l used (rows_bytes (rows_of x)) (omega (arith, bytes, few, room_left)) in
        record {
          len = long ∙ g.len;
          inside = omega (arith, closed);
          place = suc g.place;
          fine = judged.1;
          light = omega (arith, g.light, more_burden);
          fits = omega (arith, g.fits, more_spread, er, few, long);
          done = g.done ++ rows_of x;
          all = g.all ∙ ap (λ (xs : List Line). g.done ++ list_of rows_of xs) (next_line text at end e closed)
              ∙ sym (append_assoc g.done (rows_of x) (list_of rows_of (lines_from text (end + 1))));
          ends = omega (arith, er, g.ends, length-append g.done (rows_of x));
          rows = ap (rows_at m 0) (length-append g.done (rows_of x))
              ∙ ap (λ (b : List ℕ). rows_at b 0 (length g.done + length (rows_of x))) (em ∙ ap (λ (n : ℕ). put l n (rows_bytes (rows_of x))) g.ends)
              ∙ rows_put_all l (length g.done) (rows_of x) (omega (arith, g.ends, few, room_left)) fit
              ∙ ap (λ (ts : List Term). ts ++ rows_of x) g.rows;
        }
