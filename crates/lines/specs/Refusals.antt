-- What refuses a text line by line: 16, 2 and 17, with the line as the place.
use Rattle.std.specs.Prelude.{Bool, true, ◌&&◌, List, [], ◌∷◌, ℕ, suc, eqb, leb, ltb, length}
use Rattle.modes.specs.declared.Reason.TheVariants.{WordOutside, BadLine, TooManyLadders}
use Rattle.modes.specs.Answers.{Verdict, refusal, none}
use Rattle.modes.specs.Refusals.{need, or_else}
use Rattle.lines.specs.Grammar.{line_feed, pieces, Ladder, is_line, line_of}

-- every mode is below m
unfoldable pub all_below : ℕ → List Ladder → Bool
all_below m [] = true
all_below m (x ∷ xs) = ltb x.mode m && all_below m xs

-- the i-th line: 16 where it breaks the grammar; else 2 where a mode is not below m; else 17 where it has more than 12 ladders
unfoldable pub line_refusal : ℕ → ℕ → List ℕ → Verdict
line_refusal m i l =
    or_else (need (is_line l) (refusal BadLine 0 i))
    (or_else (need (all_below m (line_of l).ladders) (refusal WordOutside 1 i)) (need (leb (length (line_of l).ladders) 12) (refusal TooManyLadders 0 i)))

-- the first refusal of the pieces between line feeds, from the i-th line on: nothing stands after the last line feed
unfoldable pub lines_refusal : ℕ → ℕ → List (List ℕ) → Verdict
lines_refusal m i [] = none
lines_refusal m i (l ∷ []) = need (eqb (length l) 0) (refusal BadLine 0 i)
lines_refusal m i (l ∷ k ∷ ls) = let later = lines_refusal m (suc i) (k ∷ ls) in or_else (line_refusal m i l) later

abbrev pub text_refusal : ℕ → List ℕ → Verdict
text_refusal m text = lines_refusal m 0 (pieces line_feed text)
