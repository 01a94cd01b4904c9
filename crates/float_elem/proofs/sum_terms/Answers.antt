-- `float_elem::sum_terms` meets its contract: the sums so far are those of the terms passed, and each was finite.
use mathlib.Core.Path.{sym, subst, ◌∙◌, refl}
use Prim.Native.Nat.{◌+◌}
use native.Mathlib.Omega.{arith}
use lib.Ieee.{of_bits}
use Rattle.float_elem.specs.declared.Complex64.{Complex64}
use Rattle.float_elem.proofs.Summing.{Running, sums_start, sums_go, sums_stay, sums_stop, sums_end}
use Rattle.float_elem.proofs.sum_terms.Goals as goal
use Rattle.float_elem.proofs.sum_terms.Goals.{then-created-annihilated+else-not-are_finite, else-created-annihilated}

pub loop-i-init : goal.loop-i-init
unfolding of_bits
loop-i-init c = sums_start _ _ _ _ _ _ _ refl

pub returns-then-not-are_finite : goal.returns-then-not-are_finite
returns-then-not-are_finite c =
    let a = c.args in
    let l = c.loop-i in
    let added = c.add_term-sum in
    sums_stop a.bra a.ket a.cre.now a.ann.now a.re.now a.im.now l.sum.re l.sum.im l.i l.invariant
    added.result.re added.result.im added.ensures.0 added.ensures.1 (sym c.are_finite.ensures ∙ c.if-not-are_finite.true) (omega arith)

-- the sum after this term, whether it was looked at or passed over
pub loop-i-preserved : goal.loop-i-preserved
loop-i-preserved c =
    let a = c.args in
    let l = c.loop-i in
    let after : Complex64 → Type 0 = λ z. Running a.bra a.ket a.cre.now a.ann.now a.re.now a.im.now z.re z.im (l.i + 1) in
    elim c.if-created-annihilated.branch [
      | then-created-annihilated+else-not-are_finite looked ↦
          let added = looked.add_term-sum in
          subst after (sym looked.sum-is)
          (sums_go a.bra a.ket a.cre.now a.ann.now a.re.now a.im.now l.sum.re l.sum.im l.i l.invariant
          added.result.re added.result.im added.ensures.0 added.ensures.1 (sym looked.are_finite.ensures ∙ looked.if-not-are_finite.false) _ refl)
      | else-created-annihilated passed ↦
          subst after (sym passed.sum-is)
          (sums_stay a.bra a.ket a.cre.now a.ann.now a.re.now a.im.now l.sum.re l.sum.im l.i l.invariant
          (c.type_inv.cre l.i).fits (c.type_inv.ann l.i).fits passed.if-created-annihilated.false _ refl)
    ]

pub returns : goal.returns
returns c =
    let a = c.args in
    let l = c.loop-i in
    sums_end a.bra a.ket a.cre.now a.ann.now a.re.now a.im.now l.sum.re l.sum.im l.i l.invariant (omega arith)
