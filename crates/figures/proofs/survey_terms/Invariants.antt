use lib.ListN.{drop}
use Rattle.figures.proofs.Surveys.{Surveying}
use Rattle.figures.proofs.survey_terms.Given as goal

abbrev pub invariant-loop-i : goal.invariant-loop-i
invariant-loop-i l = Surveying l.terms (drop l.i l.terms) l.conserving l.largest l.modes
