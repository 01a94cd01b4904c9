-- The definitions encode the example record so, read it so, and accept it.
use mathlib.Core.Path.{◌≡◌, refl}
use mathlib.Core.List.{List, [], ◌∷◌}
use lib.IntN.{pos, negsuc}
use Rattle.modes.specs.declared.Term.{Term}
use Rattle.modes.specs.Answers.{none}
use Rattle.lent.specs.Bytes.{bytes, num, num_at}
use Rattle.record.specs.Numbers.{stored, numbers, same_numbers}
use Rattle.record.specs.Terms.{before, weight}
use Rattle.record.specs.Layout.{header, column, columns, encode, together, terms_in, terms_of, laid_out}
use Rattle.record.specs.Example.{example}
use Rattle.modes.specs.Refusals.{or_else}
use Rattle.modes.specs.Spaces.{inside}
use Rattle.record.specs.Refusals.{term_refusal, terms_refusal, refusal_of}

-- {0|0} with 1 and {1|1} with -1
abbrev pub terms : List Term
terms = record { cre = 1; ann = 1; coeff = pos 1 } ∷ record { cre = 2; ann = 2; coeff = negsuc 0 } ∷ []

pub example_encoded : encode 2 terms ≡ example
unfolding example bytes stored header column columns
example_encoded = refl

pub example_read : terms_of example ≡ terms
unfolding example num num_at numbers together terms_in
example_read = refl

pub example_accepted : refusal_of 1 example ≡ none
unfolding example num num_at numbers same_numbers together terms_in before weight laid_out or_else inside term_refusal terms_refusal refusal_of
example_accepted = refl
