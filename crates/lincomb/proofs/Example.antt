-- The specification's example record added to itself, and taken from itself, with two bytes of output to spare: computed from the definitions.
use mathlib.Core.Path.{◌≡◌, refl}
use mathlib.Core.List.{[], ◌∷◌, ◌++◌}
use lib.IntN.{pos, negsuc}
use Rattle.record.specs.Operands.{read_as}
use Rattle.std.specs.Prelude.{Ok}
use Rattle.modes.specs.Answers.{wrote}
use Rattle.lent.specs.Bytes.{bytes, num, num_at, zeros}
use Rattle.record.specs.Numbers.{stored, numbers, same_numbers}
use Rattle.record.specs.Terms.{before, weight}
use Rattle.record.specs.Example.{example}
use Rattle.record.specs.Layout.{header, column, columns, encode, together, terms_in, laid_out}
use Rattle.modes.specs.Refusals.{or_else, unless}
use Rattle.modes.specs.Spaces.{inside}
use Rattle.record.specs.Refusals.{term_refusal, terms_refusal, refusal_of}
use Rattle.normal.specs.Normal.{join, insert, collect, drop_zeros}
use Rattle.results.specs.Results.{result_refusal}
use Rattle.lincomb.specs.Sums.{added, subtracted}

pub twice : (added 82 (read_as 1 example) (read_as 2 example)).bytes ≡ encode 2
    (record { cre = 1; ann = 1; coeff = pos 2 } ∷ record { cre = 2; ann = 2; coeff = negsuc 1 } ∷ []) ++ zeros 2
unfolding example bytes num num_at stored numbers same_numbers before weight header column columns together terms_in laid_out or_else inside
    term_refusal terms_refusal refusal_of join insert collect drop_zeros result_refusal unless
twice = refl

pub nothing_left : (subtracted 34 (read_as 1 example) (read_as 2 example)).answer ≡ Ok (wrote 32 0)
unfolding example bytes num num_at stored numbers same_numbers before weight header column columns together terms_in laid_out or_else inside
    term_refusal terms_refusal refusal_of join insert collect drop_zeros result_refusal unless
nothing_left = refl
