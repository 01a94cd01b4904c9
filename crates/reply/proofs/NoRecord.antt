-- Bytes that are no record, and so are refused with 1: those that are not laid out as one, too many of them, and a reply's line.
use mathlib.Core.Path.{◌≡◌, refl, ap}
use mathlib.Core.Bool.{Bool, true, false}
use mathlib.Core.List.{List}
use Prim.Native.Nat.{ℕ, ◌+◌, ◌*◌, ◌<◌}
use native.Mathlib.Omega.{arith}
use lib.ListN.{length, get_or}
use Rattle.modes.specs.Reasons.{number_of}
use Rattle.modes.specs.declared.Refusal.{Refusal}
use Rattle.std.specs.Prelude.{Err}
use Rattle.modes.specs.declared.Reason.TheVariants.{Malformed}
use Rattle.modes.specs.Answers.{Verdict, refusal}
use Rattle.modes.specs.Refusals.{need, or_else}
use Rattle.modes.proofs.Refusals.{or_first}
use Rattle.lent.specs.Bytes.{num, num_at}
use Rattle.record.specs.Numbers.{numbers}
use Rattle.record.specs.Layout.{laid_out}
use Rattle.record.specs.Refusals.{refusal_of}
use Rattle.record.proofs.Header.{Laid, laid}
use Rattle.reply.specs.Lines.{line_of_numbers, refused_line}

pub not_laid : (o : ℕ) (l : List ℕ) → (Laid l → ⊥) → refusal_of o l ≡ Err (refusal Malformed o 0)
unfolding refusal_of
not_laid o l h = go (laid_out l) _ refl
  where
    go : (s : Bool) (later : Verdict) → laid_out l ≡ s → or_else (need s (refusal Malformed o 0)) later ≡ Err (refusal Malformed o 0)
    go true later e = absurd (h (laid l e))
    go false later e = or_first (Err (refusal Malformed o 0)) later (λ z. cc)

-- no record has more than 49,184 bytes
pub too_long : (o : ℕ) (l : List ℕ) → 49184 < length l → refusal_of o l ≡ Err (refusal Malformed o 0)
too_long o l h = not_laid o l (λ k. absurd (omega (arith, k.size, k.few)))

-- whatever three numbers a line tells, its first byte is not a record's
pub told_no_record : (o number operand place : ℕ) → refusal_of o (line_of_numbers number operand place) ≡ Err (refusal Malformed o 0)
unfolding numbers num_at num
told_no_record o number operand place =
    not_laid o (line_of_numbers number operand place)
    (λ k. let e : ◌≡◌ {A = ℕ} (114 + 256 * (101 + 256 * (102 + 256 * (117 + 256 * 0)))) 1 = ap (λ (xs : List ℕ). get_or xs 0 0) k.header in absurd (omega arith))

-- A LINE IS NO RECORD
pub line_no_record : (o : ℕ) (f : Refusal) → refusal_of o (refused_line f) ≡ Err (refusal Malformed o 0)
unfolding refused_line
line_no_record o f = told_no_record o (number_of f.reason) f.operand f.place
