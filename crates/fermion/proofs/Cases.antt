-- All numbered cases hold: by computation, and case 9 for every ket.
use mathlib.Core.Path.{refl, ap}
use mathlib.Core.Bool.{false}
use Rattle.modes.specs.Refusals.{unless, or_else}
use Rattle.modes.specs.Bools.{◌⊕◌}
use Rattle.modes.specs.Words.{bit, each, lowest_mode}
use Rattle.modes.specs.Counts.{count, odd, odd_exchanges}
use Rattle.modes.specs.Sums.{sum_of}
use Rattle.lent.specs.Bytes.{bytes, num, num_at}
use Rattle.products.specs.PhaseRule.{went, term, ladders, ladder}
use Rattle.products.specs.Apply.{blocked_by, apply_result_of}
use Rattle.products.specs.Product.{choices, rows_times}
use Rattle.products.proofs.ClosedForm.{term_none}
use Rattle.record.specs.Numbers.{stored, numbers, same_numbers}
use Rattle.record.specs.Terms.{before, weight}
use Rattle.record.specs.Example.{example}
use Rattle.record.specs.Layout.{header, column, columns, together, terms_in, laid_out}
use Rattle.modes.specs.Spaces.{inside}
use Rattle.record.specs.Refusals.{term_refusal, terms_refusal, refusal_of}
use Rattle.normal.specs.Normal.{join, insert, collect, drop_zeros}
use Rattle.results.specs.Results.{result_refusal}
use Rattle.pairs.specs.Products.{pair_rows, all_branches}
use Rattle.multiply.specs.Answers.{weight_refusal, work_refusal}
use Rattle.fermion.specs.Cases.{cases, AllHold}

pub cases_hold : AllHold cases
unfolding unless term ladders ladder bit odd odd_exchanges each choices rows_times ◌⊕◌ count sum_of bytes num num_at stored numbers same_numbers before weight header column
    columns together terms_in laid_out or_else inside term_refusal terms_refusal refusal_of join insert collect drop_zeros result_refusal pair_rows all_branches weight_refusal
    work_refusal example lowest_mode blocked_by
cases_hold = (
  refl,
  (
    refl,
    (
      refl,
      (
        refl,
        (
          refl,
          (
            refl,
            (
              refl,
              (
                refl,
                (
                  (λ ket. ap (apply_result_of (blocked_by 0 0 ket)) (term_none (went ket false))),
                  (refl, (refl, (refl, (refl, (refl, (refl, (refl, (refl, (refl, (refl, (refl, (refl, (refl, tt))))))))))))),
                ),
              ),
            ),
          ),
        ),
      ),
    ),
  ),
)
