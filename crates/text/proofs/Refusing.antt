-- What refuses a text before it is multiplied out, case by case.
use mathlib.Core.Path.{◌≡◌, sym, ◌∙◌}
use mathlib.Core.Bool.{and-false}
use mathlib.Core.List.{List}
use mathlib.Core.Logic.{⊎_elim}
use Prim.Native.Nat.{ℕ, ◌*◌, ◌/◌, ◌^◌, ◌≤◌, ◌<◌}
use native.Mathlib.Omega.{arith}
use lib.Dec.{leb}
use borrow.Author.Tests.{le-leb, lt-leb}
use Rattle.modes.specs.declared.Refusal.{Refusal}
use Rattle.std.specs.Prelude.{Ok, Err}
use Rattle.modes.specs.declared.Reason.TheVariants.{Malformed}
use Rattle.modes.specs.Answers.{Verdict, refusal, none, rows_do_not_fit, product_too_heavy}
use Rattle.modes.specs.Refusals.{need, or_else}
use Rattle.modes.specs.Spaces.{space_of, is_made}
use Rattle.modes.specs.Sums.{amount_of}
use Rattle.modes.proofs.Digits.{lt_or_ge}
use Rattle.modes.proofs.Refusals.{needed, the_first, the_second, or_second, refused_by, not_refused}
use Rattle.record.proofs.Header.{made}
use Rattle.decimals.specs.Ceiling.{up_to}
use Rattle.lines.specs.Grammar.{lines_of}
use Rattle.lines.specs.Refusals.{text_refusal}
use Rattle.scan.specs.Sums.{spread, burden}
use Rattle.scan.specs.Scanned.{summed_text, scanned_of}
use Rattle.scan.specs.declared.Sums.{Sums}
use Rattle.text.specs.Import.{sums_refusal, early_refusal}

-- 8 and then 7, of a burden and a spread
abbrev pub sums_judged : ℕ → ℕ → ℕ → Verdict
sums_judged work b s = or_else (need (leb b (2 ^ 60)) product_too_heavy) (need (leb (48 * s) work) rows_do_not_fit)

module _ (work b s : ℕ) where
  pub too_heavy : 2 ^ 60 < b → Err product_too_heavy ≡ sums_judged work b s
  unfolding or_else
  too_heavy h = rw (lt-leb _ _ h)

  module _ (light : b ≤ 2 ^ 60) where
    pub too_many : work / 48 < s → Err rows_do_not_fit ≡ sums_judged work b s
    unfolding or_else
    too_many h = let over : work < 48 * s = omega arith in rw (le-leb _ _ light, lt-leb _ _ over)

    pub both_fine : s ≤ work / 48 → none ≡ sums_judged work b s
    unfolding or_else
    both_fine h = let room : 48 * s ≤ work = omega arith in rw (le-leb _ _ light, le-leb _ _ room)

-- a number as far as the ceiling is judged as the number is
capped_burden : (b : ℕ) → leb (up_to b) (2 ^ 60) ≡ leb b (2 ^ 60)
capped_burden b =
    ⊎_elim (λ h. rw (lt-leb b (2 ^ 60) h) (lt-leb (up_to b) (2 ^ 60) (omega arith))) (λ h. rw (le-leb b (2 ^ 60) h) (le-leb (up_to b) (2 ^ 60) (omega arith)))
    (lt_or_ge (2 ^ 60) b)

capped_spread : (s work : ℕ) → work < 2 ^ 63 → leb (48 * up_to s) work ≡ leb (48 * s) work
capped_spread s work small =
    ⊎_elim (λ h. rw (lt-leb (48 * s) work h) (lt-leb (48 * up_to s) work (omega arith))) (λ h. rw (le-leb (48 * s) work h) (le-leb (48 * up_to s) work (omega arith)))
    (lt_or_ge work (48 * s))

-- 1, of a mode count
abbrev pub bad_modes : ℕ → Verdict
bad_modes m = need (is_made (space_of m)) (refusal Malformed 1 0)

pub too_many_modes : (m : ℕ) → 64 < m → Err (refusal Malformed 1 0) ≡ bad_modes m
too_many_modes m h = rw (lt-leb m 64 h, and-false (leb 1 m))

-- a mode count that is not refused
pub modes_range : (m : ℕ) → bad_modes m ≡ none → (1 ≤ m) × (m ≤ 64)
modes_range m z = made m (needed (is_made (space_of m)) (refusal Malformed 1 0) z)

module _ (m work : ℕ) (text : List ℕ) where
  pub modes_refused : (r : Refusal) → Err r ≡ bad_modes m → Err r ≡ early_refusal m work text
  modes_refused r e = the_first (bad_modes m) _ r e

  module _ (x : Unit {0}) (fine : Ok x ≡ bad_modes m) where
    after_modes : or_else (text_refusal m text) (sums_refusal work (lines_of text)) ≡ early_refusal m work text
    after_modes = the_second (bad_modes m) _ x fine

    pub text_refused : (r : Refusal) → Err r ≡ scanned_of m text → Err r ≡ early_refusal m work text
    text_refused r e = the_first (text_refusal m text) _ r (sym (refused_by (summed_text text) (text_refusal m text) r e)) ∙ after_modes

    pub sums_refused : (s : Sums) → Ok s ≡ scanned_of m text → work < 2 ^ 63 → sums_judged work s.burden s.spread ≡ early_refusal m work text
    sums_refused s e small =
        let found = not_refused (summed_text text) (text_refusal m text) s e in
        let judged : sums_judged work s.burden s.spread ≡ sums_refusal work (lines_of text) =
        rw (found.1, capped_burden (amount_of burden (lines_of text)), capped_spread (amount_of spread (lines_of text)) work small) in
        judged ∙ sym (or_second (text_refusal m text) _ found.0) ∙ after_modes
