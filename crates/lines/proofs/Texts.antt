-- The lines of a text from one byte on: the first of them, and those after it.
use mathlib.Core.Path.{◌≡◌, ap, ◌∙◌}
use mathlib.Core.List.{List, [], ◌∷◌, map}
use Prim.Native.Nat.{ℕ, suc, ◌+◌, ◌-◌, ◌≤◌, ◌<◌}
use native.Mathlib.Omega.{arith}
use lib.ListN.{length, take, drop, length-drop, drop_of_length-le}
use lib.Seq.{length-take-le}
use borrow.Author.Tests.{ne_eqb}
use Rattle.std.specs.Prelude.{Err}
use Rattle.modes.specs.declared.Reason.TheVariants.{BadLine}
use Rattle.modes.specs.Answers.{refusal, none}
use Rattle.modes.specs.Refusals.{or_else}
use Rattle.lines.specs.Grammar.{Line, line_feed, pieces, line_of, ended}
use Rattle.lines.specs.Refusals.{line_refusal, lines_refusal}
use Rattle.lines.specs.Reading.{front}
use Rattle.lines.proofs.Pieces.{pieces_front, pieces_from_is, rest_next, rest_none}

-- what begins a line or ends the text at byte `at`, cut at line feeds
abbrev pub pieces_from : List ℕ → ℕ → List (List ℕ)
pieces_from text at = pieces line_feed (drop at text)

abbrev pub lines_from : List ℕ → ℕ → List Line
lines_from text at = map line_of (ended (pieces_from text at))

module _ (l : List ℕ) (text : List ℕ) (at : ℕ) where
  more_refusal : (m i : ℕ) → lines_refusal m i (l ∷ pieces_from text at) ≡ or_else (line_refusal m i l) (lines_refusal m (suc i) (pieces_from text at))
  unfolding lines_refusal
  more_refusal m i = rw (pieces_front line_feed (drop at text))

  more_ended : ended (l ∷ pieces_from text at) ≡ l ∷ ended (pieces_from text at)
  unfolding ended
  more_ended = rw (pieces_front line_feed (drop at text))

-- the piece from `at` to `end`
module _ (text : List ℕ) (at end : ℕ) (e : end ≡ at + length (front line_feed (drop at text))) where
  abbrev pub line_at : List ℕ
  line_at = take (end - at) (drop at text)

  -- the last line feed is missing
  pub last_refused : at < length text → end ≡ length text → (m i : ℕ) → lines_refusal m i (pieces_from text at) ≡ Err (refusal BadLine 0 i)
  unfolding lines_refusal
  last_refused h k m i =
      let long : length line_at ≡ end - at = length-take-le (end - at) (drop at text) (omega (arith, length-drop at text)) in
      rw (pieces_from_is line_feed text at end e, rest_none line_feed text end (omega arith), ne_eqb (length line_at) 0 (λ z. absurd (omega (arith, long))))

  module _ (h : end < length text) where
    next_piece : pieces_from text at ≡ line_at ∷ pieces_from text (end + 1)
    next_piece = pieces_from_is line_feed text at end e ∙ ap (λ (ls : List (List ℕ)). line_at ∷ ls) (rest_next line_feed text end h)

    pub next_line : lines_from text at ≡ line_of line_at ∷ lines_from text (end + 1)
    next_line = ap (λ (ls : List (List ℕ)). map line_of (ended ls)) next_piece ∙ ap (map line_of) (more_ended line_at text (end + 1))

    pub next_refusal : (m i : ℕ) → lines_refusal m i (pieces_from text at) ≡ or_else (line_refusal m i line_at) (lines_refusal m (suc i) (pieces_from text (end + 1)))
    next_refusal m i = ap (lines_refusal m i) next_piece ∙ more_refusal line_at text (end + 1) m i

-- after the last line
module _ (text : List ℕ) (at : ℕ) (h : length text ≤ at) where
  pub no_line : lines_from text at ≡ []
  unfolding ended pieces
  no_line = ap (λ (l : List ℕ). map line_of (ended (pieces line_feed l))) (drop_of_length-le text h)

  pub no_refusal : (m i : ℕ) → lines_refusal m i (pieces_from text at) ≡ none
  unfolding lines_refusal pieces
  no_refusal m i = ap (λ (l : List ℕ). lines_refusal m i (pieces line_feed l)) (drop_of_length-le text h)
