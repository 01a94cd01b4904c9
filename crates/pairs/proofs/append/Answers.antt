-- `pairs::append` meets its contract: no rows, the rows after those that are there, or too many.
use mir.Facts.{to_z-of_z}
use Rattle.products.proofs.ProductTheorems.{rows_fit}
use mathlib.Core.Path.{sym, ◌∙◌}
use Rattle.pairs.proofs.Appending.{empty_where, full_where, none_appended, held_fits, appended, too_many}
use borrow.Author.Rules.{rules}
use Rattle.pairs.proofs.append.Goals as goal

pub returns-then-destroys : goal.returns-then-destroys
returns-then-destroys c =
    none_appended c.args.helper c.args.coeff c.args.work.now c.args.s c.requires.0 (empty_where _ _ c.destroys.ensures c.if-destroys.true)

pub overflow_add-result : goal.overflow_add-result
overflow_add-result c =
    let fits =
    held_fits c.args.helper c.args.coeff c.args.work.now c.args.s c.requires.0 c.bifurcations-left.result c.bifurcations-left.type_inv
    (full_where _ _ c.destroys.ensures c.if-destroys.false) c.bifurcations-left.ensures
    (sym c.rows_fit.ensures ∙ c.if-rows_fit.true) _ (rw (to_z-of_z c.ranges.coeff) at c.put_rows-end.ensures.0) in
    search rules

pub returns-then-rows_fit : goal.returns-then-rows_fit
returns-then-rows_fit c =
    let rows =
    rows_fit c.args.helper.l_cre c.args.helper.l_ann c.args.helper.r_cre c.args.helper.r_ann
    (search rules) (search rules) (search rules) (search rules) c.args.coeff c.requires.1 in
    appended c.args.helper c.args.coeff c.args.work.now c.args.s c.requires.0 c.bifurcations-left.result c.bifurcations-left.type_inv
    (full_where _ _ c.destroys.ensures c.if-destroys.false) c.bifurcations-left.ensures
    (sym c.rows_fit.ensures ∙ c.if-rows_fit.true) rows _ _ (rw (to_z-of_z c.ranges.coeff) at c.put_rows-end.ensures.0)
    (rw (to_z-of_z c.ranges.coeff) at c.put_rows-end.ensures.1)

pub returns : goal.returns
returns c =
    too_many c.args.helper c.args.coeff c.args.work.now c.args.s c.requires.0 c.bifurcations-left.result
    c.bifurcations-left.type_inv
    (full_where _ _ c.destroys.ensures c.if-destroys.false)
    c.bifurcations-left.ensures (sym c.rows_fit.ensures ∙ c.if-rows_fit.false) _
