-- `mat_elem::sum_parts` meets its contract: the invariant is that what is summed and what is left make the element.
use mathlib.Core.Path.{ap, ◌∙◌}
use Prim.Native.Nat.{◌+◌, ◌≤◌, zero-le}
use native.Mathlib.Omega.{arith}
use lib.IntN.{ℤ, ◌+ℤ◌}
use mir.Facts.{to_z-of_z}
use mir.Syntax.{w64}
use mir.Val.{SFits, to_z, of_z}
use lib.ListN.{drop_of_length-le}
use Rattle.mat_elem.proofs.Summing.{sum_starts, sum_passes, sum_goes, sum_fits, term_light, sum_ends}
use Rattle.mat_elem.proofs.sum_parts.Goals as goal

pub loop-i-init : goal.loop-i-init
loop-i-init c =
    let terms = c.args.terms.now in
    let next = c.next_between-i in
    let none_yet = sum_starts c.args.bra c.args.ket terms c.requires in
    (next.ensures.1, sum_passes c.args.bra c.args.ket terms _ 0 next.result zero-le next.ensures.2 none_yet)

pub part_of-requires : goal.part_of-requires
part_of-requires c =
    let l = c.loop-i in
    term_light c.args.bra c.args.ket c.args.terms.now (to_z w64 l.sum-bits) l.i c.get-t.result c.get-t.ensures l.invariant.1

pub sum-sum-requires : goal.sum-sum-requires
sum-sum-requires c =
    let l = c.loop-i in
    let p : SFits w64 c.part_of.result = record { sfits = c.part_of.type_inv } in
    rw (to_z-of_z p) (sum_fits c.args.bra c.args.ket c.args.terms.now (to_z w64 l.sum-bits) c.part_of.result l.i
    c.get-t.result c.get-t.ensures l.invariant.1 c.part_of.ensures.1)

pub loop-i-preserved : goal.loop-i-preserved
loop-i-preserved c =
    let next = c.next_between-i-in-loop-i in
    let terms = c.args.terms.now in
    let l = c.loop-i in
    let t = c.get-t in
    let p = c.part_of in
    let fits : SFits w64 p.result = record { sfits = p.type_inv } in
    let sums : SFits w64 c.sum-sum.result = record { sfits = c.sum-sum.type_inv } in
    let sum = to_z w64 (of_z w64 c.sum-sum.result) in
    let with_it = sum_goes c.args.bra c.args.ket terms (to_z w64 l.sum-bits) p.result sum l.i t.result t.ensures l.invariant.1 p.ensures.0 p.ensures.1
    (to_z-of_z sums ∙ c.sum-sum.ensures ∙ ap (λ (z : ℤ). (to_z w64 l.sum-bits) +ℤ z) (to_z-of_z fits)) in
    let on : l.i + 1 ≤ next.result = omega (arith, next.ensures.0) in
    (next.ensures.1, sum_passes c.args.bra c.args.ket terms sum (l.i + 1) next.result on next.ensures.2 with_it)

pub returns : goal.returns
returns c =
    let l = c.loop-i in
    sum_ends c.args.bra c.args.ket c.args.terms.now (to_z w64 l.sum-bits) l.i
    (drop_of_length-le c.args.terms.now {i = l.i} (omega arith)) l.invariant.1
