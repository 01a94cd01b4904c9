-- How long a text can be: a word's ladders, a line, and the lines of a whole record.
use mathlib.Core.Bool.{Bool, true, false, cond}
use mathlib.Core.List.{List, [], ◌∷◌}
use mathlib.Core.Logic.{⊎_elim}
use Prim.Native.Nat.{ℕ, zero, suc, ◌+◌, ◌*◌, ◌/◌, ◌^◌, ◌≤◌, ◌<◌, min}
use native.Mathlib.Omega.{arith}
use lib.IntN.{ℤ, pos, negsuc, nat_abs}
use lib.ListN.{length, length-append}
use Rattle.modes.specs.declared.Term.{Term}
use Rattle.modes.specs.Words.{bit}
use Rattle.modes.specs.Sums.{sum_by}
use Rattle.modes.proofs.Digits.{lt_or_ge}
use Rattle.decimals.specs.Decimal.{decimal, field}
use Rattle.decimals.specs.Stores.{Stored}
use Rattle.decimals.proofs.Decimals.{decimal_length, length_field}
use Rattle.record.specs.Terms.{weight}
use Rattle.lines.specs.Grammar.{space, creates, annihilates}
use Rattle.term_lines.specs.Written.{sign_text, modes_text, term_text, terms_text}

-- a mode below 10 takes one digit, and any other below 64 takes two
mode_length : (p kind : ℕ) → p < 64 → length (field p kind) + min (suc p) 10 ≤ min p 10 + 3
mode_length p kind h =
    ⊎_elim (λ small. omega (arith, length_field p kind, decimal_length 0 p small))
    (λ big. omega (arith, length_field p kind, decimal_length 1 p (omega arith))) (lt_or_ge p 10)

-- so a word's ladders take four bytes each, less one for each mode below 10
modes_length : (kind k w : ℕ) → k ≤ 64 → length (modes_text kind k w) + min k 10 ≤ 4 * k
unfolding modes_text
modes_length kind zero w h = omega arith
modes_length kind (suc p) w h =
    rw (length-append (modes_text kind p w) (cond (bit w p) (space ∷ field p kind) []))
    (go (bit w p) (modes_length kind p w (omega arith)))
  where
    go : (b : Bool) → length (modes_text kind p w) + min p 10 ≤ 4 * p
        → length (modes_text kind p w) + length (cond b (space ∷ field p kind) []) + min (suc p) 10 ≤ 4 * suc p
    go true lower = omega (arith, mode_length p kind h)
    go false lower = omega arith

pub ladders_length : (kind w : ℕ) → length (modes_text kind 64 w) ≤ 246
ladders_length kind w = omega (arith, modes_length kind 64 w (omega arith))

-- where they end, stored at o
pub ladders_end : (kind w : ℕ) {l m : List ℕ} {o p : ℕ} → Stored l o (modes_text kind 64 w) m p → p ≤ o + 246
ladders_end kind w g = omega (arith, g.ends, ladders_length kind w)

-- ---- a line

pub sign_length : (z : ℤ) → length (sign_text z) ≤ 1
sign_length (pos n) = omega arith
sign_length (negsuc n) = omega arith

pub number_length : (n : ℕ) → n < 2 ^ 64 → length (decimal n) ≤ 20
number_length n h = decimal_length 19 n (omega arith)

line_length : (t : Term) → length (term_text t) ≤ length (decimal (nat_abs t.coeff)) + 494
unfolding term_text
line_length t =
    simp length-append (omega (arith, sign_length t.coeff, ladders_length creates t.cre, ladders_length annihilates t.ann))

-- the room that `put_line` asks for is enough
pub line_fits : (t : Term) → nat_abs t.coeff < 2 ^ 64 → length (term_text t) ≤ 534
line_fits t h = omega (arith, line_length t, number_length (nat_abs t.coeff) h)

-- ---- all lines of a record

-- a number has no more digits than 15 and its share of 10^15
few_digits : (c : ℕ) → c < 10 ^ 19 → length (decimal c) ≤ 15 + c / 10 ^ 15
few_digits c h =
    ⊎_elim (λ small. omega (arith, decimal_length 14 c small))
    (λ over. ⊎_elim (λ next. omega (arith, decimal_length 15 c next)) (λ far. omega (arith, decimal_length 18 c h)) (lt_or_ge c (10 ^ 16)))
    (lt_or_ge c (10 ^ 15))

share : (a b : ℕ) → a / 10 ^ 15 + b / 10 ^ 15 ≤ (a + b) / 10 ^ 15
share a b = omega arith

text_length : (ts : List Term) → weight ts < 10 ^ 19 → length (terms_text ts) ≤ 509 * length ts + weight ts / 10 ^ 15
unfolding sum_by weight
text_length [] h = omega arith
text_length (t ∷ ts) h =
    let c = nat_abs t.coeff in
    rw (length-append (term_text t) (terms_text ts))
    (omega (arith, line_length t, few_digits c (omega arith), text_length ts (omega arith), share c (weight ts)))

-- THE LONGEST TEXT: what a record's terms make, at most 2048 of a weight of at most 2^60, is no longer than 2^20 bytes
pub longest_text : (ts : List Term) → length ts ≤ 2048 → weight ts ≤ 2 ^ 60 → length (terms_text ts) ≤ 1048576
longest_text ts few light = omega (arith, text_length ts (omega arith))
