-- A line: its sign, and the stores that make it.
use mathlib.Core.Path.{◌≡◌}
use mathlib.Core.Bool.{true, false, true≢false}
use mathlib.Core.List.{List}
use Prim.Native.Nat.{ℕ, ◌+◌, ◌<◌}
use native.Mathlib.Omega.{arith}
use lib.IntN.{ℤ, pos, negsuc, nat_abs}
use lib.ListN.{length, set}
use lib.Signed.{lt_z}
use borrow.Author.Tests.{ltb-true}
use Rattle.modes.specs.declared.Term.{Term}
use Rattle.decimals.specs.Decimal.{decimal}
use Rattle.decimals.specs.Stores.{Stored}
use Rattle.decimals.proofs.Stores.{stored_none, stored_one, stored_join, stored_inside}
use Rattle.lines.specs.Grammar.{line_feed, minus, creates, annihilates}
use Rattle.term_lines.specs.Written.{sign_text, modes_text, term_text}

pub minus_stored : (l : List ℕ) (z : ℤ) → 0 < length l → lt_z z (pos 0) ≡ true → Stored l 0 (sign_text z) (set l 0 minus) 1
minus_stored l (pos n) h e = absurd (omega (arith, ltb-true n 0 e))
minus_stored l (negsuc n) h e = stored_one l 0 minus h

pub no_minus_stored : (l : List ℕ) (z : ℤ) → lt_z z (pos 0) ≡ false → Stored l 0 (sign_text z) l 0
no_minus_stored l (pos n) e = stored_none l 0 (omega arith)
no_minus_stored l (negsuc n) e = let w : true ≡ false = e in absurd (true≢false w)

-- the sign, the number, the creations, the annihilations and the line feed, one after the other
pub line_stored : (t : Term) (l l1 l2 l3 l4 : List ℕ) (o p q r n : ℕ) → n ≡ nat_abs t.coeff → Stored l 0 (sign_text t.coeff) l1 o
    → Stored l1 o (decimal n) l2 p → Stored l2 p (modes_text creates 64 t.cre) l3 q → Stored l3 q (modes_text annihilates 64 t.ann) l4 r
    → r < length l4 → Stored l 0 (term_text t) (set l4 r line_feed) (r + 1)
unfolding term_text
line_stored t l l1 l2 l3 l4 o p q r n e sign number cre ann room =
    let one = stored_inside (sign_text t.coeff) (omega arith) sign in
    let two = stored_inside (decimal n) one number in
    let three = stored_inside (modes_text creates 64 t.cre) two cre in
    rw (← e)
    (stored_join (sign_text t.coeff) _ (omega arith) sign (stored_join (decimal n) _ one number
    (stored_join (modes_text creates 64 t.cre) _ two cre (stored_join (modes_text annihilates 64 t.ann) _ three ann (stored_one l4 r line_feed room)))))
