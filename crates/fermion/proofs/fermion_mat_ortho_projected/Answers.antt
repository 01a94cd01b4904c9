-- `fermion::fermion_mat_ortho_projected` meets its contract.
use mathlib.Core.Path.{sym, ◌∙◌}
use Rattle.mat_elem.proofs.Fitting.{projected_rows}
use Rattle.fermion.proofs.fermion_mat_ortho_projected.Goals as goal

pub map_or-requires : goal.map_or-requires
map_or-requires c = λ rows e. projected_rows _ _ rows (sym e ∙ c.mat_ortho_projected-projected.ensures)
