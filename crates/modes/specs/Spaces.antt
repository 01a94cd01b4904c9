-- A mode count is accepted from 1 to 64; the words of such a space, and what refuses a word outside it.
use Rattle.std.specs.Prelude.{Bool, cond, ◌&&◌, ℕ, ◌^◌, Option, Some, None, is_some, leb, ltb}
use Rattle.modes.specs.Answers.{Verdict, refusal}
use Rattle.modes.specs.Refusals.{need, or_else}
use Rattle.modes.specs.declared.Reason.TheVariants.{OccupationOutside}
use Rattle.modes.specs.declared.ModeSpace.{ModeSpace}

abbrev pub space_of : ℕ → Option ModeSpace
space_of m = cond (leb 1 m && leb m 64) (Some (record { count = m })) None

-- is there a space of m modes
abbrev pub is_made : Option ModeSpace → Bool
is_made s = is_some s

-- both words hold only modes below m
unfoldable pub inside : ℕ → ℕ → ℕ → Bool
inside m cre ann = ltb ann (2 ^ m) && ltb cre (2 ^ m)

-- 12 where the word holds a mode outside m
abbrev pub word_refusal : ℕ → ℕ → ℕ → ℕ → Verdict
word_refusal m operand place w = need (ltb w (2 ^ m)) (refusal OccupationOutside operand place)

-- 12 of the bra and then of the ket
abbrev pub words_refusal : ℕ → ℕ → ℕ → Verdict
words_refusal m bra ket = or_else (word_refusal m 3 0 bra) (word_refusal m 4 0 ket)
