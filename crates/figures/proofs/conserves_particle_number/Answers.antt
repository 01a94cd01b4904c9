-- `figures::conserves_particle_number` meets its contract: one of the figures.
use mathlib.Core.Path.{◌∙◌}
use Rattle.modes.proofs.Refusals.{handed_on, refused_alike, answered_alike}
use Rattle.figures.specs.declared.Figures.{Figures}
use Rattle.figures.proofs.conserves_particle_number.Goals as goal

pub returns-in_err-figures : goal.returns-in_err-figures
returns-in_err-figures c =
    handed_on _ _ c.from_residual.ensures.0 c.from_residual.ensures.1
    ∙ refused_alike (λ (f : Figures). f.conserving) _ _ _ c.in_err-figures.ensures

pub returns : goal.returns
returns c = answered_alike (λ (f : Figures). f.conserving) _ _ _ c.in_ok-figures.ensures
