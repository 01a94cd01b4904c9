-- `lent::copy` meets its contract: the bytes passed stand at their place, the others are as they were.
use Prim.Native.Nat.{◌+◌}
use mathlib.Core.Path.{◌≡◌, ◌∙◌}
use mathlib.Core.List.{append_assoc}
use native.Mathlib.Omega.{arith}
use native.Mathlib.Numerals.{add-one}
use borrow.Author.Rules.{rules}
use lib.ListN.{length, take, drop}
use lib.Seq.{paste-zero, paste-suc, take-length}
use Rattle.lent.specs.Bytes.{put}
use Rattle.lent.proofs.copy.Goals as goal

pub loop-k-init : goal.loop-k-init
loop-k-init c = (search rules, paste-zero c.args.s.now c.args.at c.args.from.now)

pub loop-k-preserved : goal.loop-k-preserved
loop-k-preserved c =
    let a = c.args in
    let v = c.loop-k in
    (search rules, rw (v.invariant.1, add-one) (paste-suc a.s.now a.at a.from.now v.k 0 (omega (arith, c.requires)) (omega arith)))

pub returns : goal.returns
unfolding put
returns c =
    let a = c.args in
    let from = a.from.now in
    let e : c.loop-k.k ≡ length from = omega arith in
    c.loop-k.invariant.1 ∙ rw (e, take-length from) (append_assoc (take a.at a.s.now) from (drop (a.at + length from) a.s.now))
