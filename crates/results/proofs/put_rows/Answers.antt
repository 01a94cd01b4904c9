-- `results::put_rows` meets its contract: the rows so far stand in their places.
use mathlib.Core.Path.{refl, ◌∙◌}
use native.Mathlib.Omega.{arith}
use Rattle.lent.specs.Rows.{rows_at}
use Rattle.results.proofs.Delivering.{placing_goes, placing_ends}
use Rattle.results.proofs.put_rows.Goals as goal

pub loop-i-init : goal.loop-i-init
unfolding rows_at
loop-i-init c = (refl, refl)

pub put_term-requires : goal.put_term-requires
put_term-requires c =
    (omega (arith, c.loop-i.invariant.1, c.requires.1), omega (arith, c.loop-i-test))

pub loop-i-preserved : goal.loop-i-preserved
loop-i-preserved c =
    let put = c.put_term in
    let v = c.loop-i in (
      placing_goes _ _ v.i v.out v.invariant.0 (omega (arith, c.loop-i-test)) _ c.get_row.ensures.0 _ put.ensures,
      put.auto.out ∙ v.invariant.1,
    )

pub shape_of-out : goal.shape_of-out
shape_of-out c = c.loop-i.invariant.1

pub returns : goal.returns
returns c = let v = c.loop-i in placing_ends _ _ v.i v.out v.invariant.0 (omega arith) (omega arith)
