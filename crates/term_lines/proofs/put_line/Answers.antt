-- `term_lines::put_line` meets its contract: the sign, the number, the two words' ladders and the line feed, one after the other.
use mathlib.Core.Path.{ap, ◌∙◌}
use mathlib.Core.List.{List}
use Prim.Native.Nat.{ℕ, ◌+◌, ◌^◌, ◌≤◌, ◌<◌}
use native.Mathlib.Omega.{arith}
use borrow.Author.Rules.{rules}
use lib.IntN.{ℤ, nat_abs}
use mir.Syntax.{w64}
use mir.Val.{SFits}
use mir.Facts.{to_z-of_z}
use Rattle.decimals.specs.Decimal.{decimal}
use Rattle.decimals.specs.Stores.{Stored}
use Rattle.term_lines.specs.Written.{sign_text}
use Rattle.term_lines.proofs.Lines.{line_stored}
use Rattle.term_lines.proofs.Lengths.{sign_length, number_length, ladders_end}
use Rattle.term_lines.proofs.put_line.Goals as goal

-- how far the sign and the number reach at most
sign_end : (z : ℤ) {l m : List ℕ} {p : ℕ} → Stored l 0 (sign_text z) m p → p ≤ 1
sign_end z g = omega (arith, g.ends, sign_length z)

number_end : (n : ℕ) {l m : List ℕ} {o p : ℕ} → n < 2 ^ 64 → Stored l o (decimal n) m p → p ≤ o + 20
number_end n h g = omega (arith, g.ends, number_length n h)

-- and both together
front_end : (z : ℤ) {n : ℕ} {l m k : List ℕ} {p q : ℕ} → n < 2 ^ 64 → Stored l 0 (sign_text z) m p → Stored m p (decimal n) k q → q ≤ 21
front_end z h g f = omega (arith, sign_end z g, number_end _ h f)

pub put_decimal-number-requires : goal.put_decimal-number-requires
put_decimal-number-requires c =
    omega (arith, sign_end _ c.put_sign-sign.ensures, c.put_sign-sign.auto.s, number_length c.magnitude.result c.magnitude.type_inv)

pub put_modes-cre-requires : goal.put_modes-cre-requires
put_modes-cre-requires c =
    omega (arith, front_end _ c.magnitude.type_inv c.put_sign-sign.ensures c.put_decimal-number.ensures, c.put_sign-sign.auto.s, c.put_decimal-number.auto.s)

pub put_modes-ann-requires : goal.put_modes-ann-requires
put_modes-ann-requires c =
    let len = c.put_modes-cre.auto.s ∙ c.put_decimal-number.auto.s ∙ c.put_sign-sign.auto.s in
    omega (arith, front_end _ c.magnitude.type_inv c.put_sign-sign.ensures c.put_decimal-number.ensures, ladders_end _ _ c.put_modes-cre.ensures, len)

pub overflow_add-result : goal.overflow_add-result
overflow_add-result c =
    let ann = ladders_end _ _ c.put_modes-ann.ensures in
    record { fits = omega (arith, front_end _ c.magnitude.type_inv c.put_sign-sign.ensures c.put_decimal-number.ensures, ladders_end _ _ c.put_modes-cre.ensures, ann) }

pub bounds-s-ann : goal.bounds-s-ann
bounds-s-ann c =
    let ann = ladders_end _ _ c.put_modes-ann.ensures in
    let len = c.put_modes-ann.auto.s ∙ c.put_modes-cre.auto.s ∙ c.put_decimal-number.auto.s ∙ c.put_sign-sign.auto.s in
    omega (arith, front_end _ c.magnitude.type_inv c.put_sign-sign.ensures c.put_decimal-number.ensures, ladders_end _ _ c.put_modes-cre.ensures, ann, len)

pub returns : goal.returns
returns c =
    let small : SFits w64 c.args.t.coeff = search rules in
    let size = c.magnitude in
    line_stored c.args.t c.args.s.now _ _ _ _ _ _ _ _ size.result (size.ensures.0 ∙ ap nat_abs (to_z-of_z small))
    (rw (to_z-of_z small) at c.put_sign-sign.ensures)
    c.put_decimal-number.ensures c.put_modes-cre.ensures c.put_modes-ann.ensures (bounds-s-ann c)
