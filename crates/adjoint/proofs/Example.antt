-- The sign that is easy to forget: {0,1|} becomes {|0,1} with -1.
use mathlib.Core.Path.{◌≡◌, refl}
use lib.IntN.{pos, negsuc}
use Rattle.modes.specs.Words.{bit}
use Rattle.modes.specs.Counts.{count, pairs}
use Rattle.adjoint.specs.Adjoint.{odd_pairs, adjoint_term}

pub two_creations : adjoint_term (record { cre = 3; ann = 0; coeff = pos 1 }) ≡ record { cre = 0; ann = 3; coeff = negsuc 0 }
unfolding adjoint_term odd_pairs pairs count bit
two_creations = refl
