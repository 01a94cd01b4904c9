-- A text as a record: what `import` answers, and the whole output at its end.
use Rattle.std.specs.Prelude.{List, ℕ, ◌*◌, ◌^◌, leb}
use Rattle.modes.specs.declared.Reason.TheVariants.{Malformed}
use Rattle.modes.specs.Answers.{Verdict, refusal, rows_do_not_fit, product_too_heavy}
use Rattle.modes.specs.Refusals.{need, or_else}
use Rattle.modes.specs.Spaces.{space_of, is_made}
use Rattle.modes.specs.Sums.{amount_of, list_of}
use Rattle.lent.specs.Outputs.{Output}
use Rattle.normal.specs.Normal.{normal}
use Rattle.results.specs.Results.{result_of}
use Rattle.lines.specs.Grammar.{Line, lines_of}
use Rattle.lines.specs.Refusals.{text_refusal}
use Rattle.expand.specs.Rows.{rows_of}
use Rattle.scan.specs.Sums.{spread, burden}

-- over all lines: 8, and then 7 for a work of `work` bytes
abbrev pub sums_refusal : ℕ → List Line → Verdict
sums_refusal work xs =
    or_else (need (leb (amount_of burden xs) (2 ^ 60)) product_too_heavy) (need (leb (48 * amount_of spread xs) work) rows_do_not_fit)

-- 1, then line by line 16, 2 and 17, then 8, then 7
abbrev pub early_refusal : ℕ → ℕ → List ℕ → Verdict
early_refusal m work text =
    or_else (need (is_made (space_of m)) (refusal Malformed 1 0)) (or_else (text_refusal m text) (sums_refusal work (lines_of text)))

-- the record of the sum of all lines, each multiplied out; 10 and 11 refuse the result
abbrev pub import_of : ℕ → ℕ → ℕ → List ℕ → Output
import_of m work room text = result_of room 0 (early_refusal m work text) m (normal (list_of rows_of (lines_of text)))
