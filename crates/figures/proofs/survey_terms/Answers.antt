-- `figures::survey_terms` meets its contract. The invariant: what was found, with what is left, makes the whole.
use mathlib.Core.Path.{ap, ◌∙◌}
use Prim.Native.Nat.{max}
use native.Mathlib.Omega.{arith}
use lib.ListN.{drop_of_length-le}
use Rattle.figures.proofs.Surveys.{survey_goes, survey_ends}
use Rattle.figures.proofs.survey_terms.Goals as goal

pub loop-i-preserved : goal.loop-i-preserved
loop-i-preserved c =
    survey_goes _ _ _ _ c.get-t.ensures _ _ _ _ _ c.loop-i.invariant c.is_conserving-conserving.ensures
    (c.larger-largest.ensures ∙ ap (max c.loop-i.largest) c.rank.ensures.0)

pub returns : goal.returns
returns c = survey_ends _ _ (drop_of_length-le c.args.terms.now {i = c.loop-i.i} (omega arith)) _ _ _ c.loop-i.invariant
