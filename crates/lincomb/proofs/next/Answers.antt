-- `lincomb::next` meets its contract: one record is spent, or one term stands before the other, or they are alike.
use mathlib.Core.Path.{sym, ap, ◌∙◌}
use mathlib.Core.Bool.{Bool}
use mathlib.Core.List.{List}
use Prim.Native.Nat.{ℕ, ◌<◌}
use native.Mathlib.Omega.{arith}
use lib.ListN.{length}
use Rattle.modes.specs.declared.Term.{Term}
use Rattle.record.specs.Reading.{At}
use Rattle.normal.specs.Normal.{join}
use Rattle.lincomb.proofs.Stepping.{Heads, only_left, only_right, next_right, step_less, step_greater, step_level, small_read, small_turned}
use Rattle.lincomb.proofs.next.Goals as goal

pub returns-then-nb-j : goal.returns-then-nb-j
returns-then-nb-j c = only_left c.args.sign.0 _ _ _ _ _ (omega arith) (omega arith) (omega arith) c.get-t.ensures

pub turned-u-requires : goal.turned-u-requires
turned-u-requires c = omega (arith, small_read _ c.args.j _ c.requires.light.1 c.get.ensures)

pub returns-then-na-i : goal.returns-then-na-i
returns-then-na-i c =
    only_right c.args.sign.0 _ _ _ _ _ (omega arith)
    (next_right c.args.sign.0 c.args.b.now c.args.j _ _ c.get.ensures c.turned-u.ensures)
    (omega arith) (omega arith)

-- both records have a term left
both_left : {minus : Bool} {ts us : List Term} {i j : ℕ} {t u : Term} → i < length ts → j < length us → At ts i t → At us j u
    → Heads minus ts i us j t u
both_left h k x y = record { left_there = h; right_there = k; left = x; right = y }

pub returns-then-is_before : goal.returns-then-is_before
returns-then-is_before c =
    let heads = both_left (omega arith) (omega arith) c.get-t-2.ensures c.get-v.ensures in
    step_less _ _ _ _ _ heads (sym c.is_before.ensures ∙ c.if-is_before.true)

pub turned-u-requires-2 : goal.turned-u-requires-2
turned-u-requires-2 c = omega (arith, small_read _ c.args.j _ c.requires.light.1 c.get-v.ensures)

pub returns-then-is_before-2 : goal.returns-then-is_before-2
returns-then-is_before-2 c =
    let heads = both_left (omega arith) (omega arith) c.get-t-2.ensures c.get-v.ensures in
    let not_less = sym c.is_before.ensures ∙ c.if-is_before.false in
    step_greater _ _ _ _ _ heads not_less _ c.turned-u-2.ensures
    (sym c.is_before-2.ensures ∙ c.if-is_before-2.true)

pub joined-both-requires : goal.joined-both-requires
joined-both-requires c =
    let t = small_read _ c.args.i _ c.requires.light.0 c.get-t-2.ensures in
    let u = small_read _ c.args.j _ c.requires.light.1 c.get-v.ensures in
    omega (arith, small_turned c.args.sign.0 _ _ c.turned-u-2.ensures u)

pub returns : goal.returns
returns c =
    let heads = both_left (omega arith) (omega arith) c.get-t-2.ensures c.get-v.ensures in
    let not_less = sym c.is_before.ensures ∙ c.if-is_before.false in
    step_level _ _ _ _ _ heads not_less _
    (c.joined-both.ensures ∙ ap (join c.get-t-2.result) c.turned-u-2.ensures)
    (sym c.is_before-2.ensures ∙ c.if-is_before-2.false)
