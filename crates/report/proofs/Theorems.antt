-- Any byte strings counted in turn into a fresh report.
use mathlib.Core.Path.{◌≡◌, refl, sym, ap, ◌∙◌}
use mathlib.Core.Bool.{not}
use mathlib.Core.List.{List, [], ◌∷◌}
use Prim.Native.Nat.{ℕ, ◌+◌, ◌*◌, ◌^◌, ◌≤◌, ◌<◌}
use native.Mathlib.Nat.{div-add-mod', mod-lt}
use native.Mathlib.Omega.{arith}
use lib.ListN.{length, get_or, replicate, get_or-replicate, length-replicate}
use Rattle.std.specs.Prelude.{Ok, Err}
use Rattle.modes.specs.declared.Reason.TheVariants.{BadReport}
use Rattle.modes.specs.Answers.{refusal, none}
use Rattle.modes.specs.Sums.{sum_by, amount_of}
use Rattle.modes.proofs.Sums.{natural_numbers}
use Rattle.modes.proofs.Refusals.{unless_not}
use Rattle.record.specs.Terms.{weight}
use Rattle.record.specs.Layout.{terms_of}
use Rattle.record.specs.Operands.{Operand, read_as}
use Rattle.tally.specs.Ranks.{chosen, of_rank}
use Rattle.report.specs.Reports.{report_in, numbers_of, is_open, report_after, counted_of}
use Rattle.report.specs.Batches.{fresh, after_all, is_accepted, accepted_of, share_of, figures_over, Reordered}
use Rattle.report.proofs.Numbers.{Agree, same_numbers_is, numbers_of_is}
use Rattle.report.proofs.Counting.{not_taken}
use Rattle.report.proofs.Orders.{largest_of, same_number, same_sum, chosen_too, onto, onto_nothing}
use Rattle.report.proofs.Batches.{all_are, figures_open, numbers_open, numbers_full, one_more, with_one}

-- the figures do not depend on the order
figures_agree : {bs cs : List (List ℕ)} → Reordered bs cs → Agree (figures_over bs) (figures_over cs)
figures_agree {bs} {cs} r =
    let q = chosen_too is_accepted r in
    let sum : (f : List ℕ → ℕ) → amount_of f (accepted_of bs) ≡ amount_of f (accepted_of cs) = λ f. same_sum natural_numbers f q in
    record {
      accepted = same_number q;
      refused = same_number (chosen_too (λ b. not (is_accepted b)) r);
      total = rw (sum (λ b. length (terms_of b)), sum (λ b. weight (terms_of b)));
      largest = same_sum largest_of (λ b. weight (terms_of b)) q;
      rank = λ n h. rw (sum (λ b. length (of_rank n (terms_of b))), sum (λ b. weight (of_rank n (terms_of b))));
    }

-- a fresh report is that of no byte strings
fresh_is : fresh ≡ numbers_of (figures_over [])
unfolding chosen sum_by
fresh_is =
    let nought : ℕ = 0 in
    let at : (i : ℕ) → i < 201 → get_or (replicate 201 nought) i 0 ≡ 0 = λ i h. get_or-replicate 201 i nought 0 h in
    numbers_of_is fresh (figures_over []) (length-replicate 201 nought) (record {
      accepted = refl;
      refused = refl;
      total = refl;
      largest = refl;
      rank = λ r h. rw (at (6 + 3 * r) (omega arith), at (6 + 3 * r + 1) (omega arith), at (6 + 3 * r + 2) (omega arith));
    })

-- the byte strings bs after those whose figures the report has
counted_onto : (cs bs : List (List ℕ)) → length cs + length bs ≤ 1024 → after_all (numbers_of (figures_over cs)) bs ≡ numbers_of (figures_over (onto bs cs))
unfolding after_all onto
counted_onto cs [] h = refl
counted_onto cs (b ∷ bs) h =
    ap (λ (l : List ℕ). after_all l bs) (one_more (figures_over cs) (read_as 1 b) (figures_open cs (omega arith)) ∙ same_numbers_is _ _ (with_one b cs))
    ∙ counted_onto (b ∷ cs) bs (omega arith)

-- THE FIGURES: after up to 1,024 calls the numbers are those of all byte strings at once
pub batch_figures : (bs : List (List ℕ)) → length bs ≤ 1024 → after_all fresh bs ≡ numbers_of (figures_over bs)
batch_figures bs h =
    ap (λ (l : List ℕ). after_all l bs) fresh_is ∙ counted_onto [] bs (omega arith) ∙ same_numbers_is _ _ (figures_agree (onto_nothing bs))

-- a summed weight is high times 2^60 plus low, and low is below 2^60
pub weight_told : (n w : ℕ) → ((share_of n w).high * 2 ^ 60 + (share_of n w).low ≡ w) × ((share_of n w).low < 2 ^ 60)
weight_told n w = (div-add-mod' w (2 ^ 60), mod-lt w (omega arith))

-- ANY ORDER gives the same report, every number of it
pub batch_order : (bs cs : List (List ℕ)) → Reordered bs cs → length bs ≤ 1024 → after_all fresh bs ≡ after_all fresh cs
batch_order bs cs r h = batch_figures bs h ∙ same_numbers_is _ _ (figures_agree r) ∙ sym (batch_figures cs (omega (arith, same_number r)))

-- 15 IS NEVER GIVEN to the first 1,024, whatever they are
pub batch_taken : (bs : List (List ℕ)) (a : Operand) → length bs < 1024 → counted_of (after_all fresh bs) a ≡ Ok a.refusal
batch_taken bs a h =
    let is = ap (λ (l : List ℕ). is_open (report_in l)) (batch_figures bs (omega arith)) ∙ numbers_open (figures_over bs) (figures_open bs h) in
    rw is (unless_not none Err (Ok a.refusal) refl)

-- and the 1,025th gets it, which leaves the report as it was
pub batch_full : (bs : List (List ℕ)) (a : Operand) → length bs ≡ 1024
    → (counted_of (after_all fresh bs) a ≡ Err (refusal BadReport 0 0)) × (report_after (after_all fresh bs) a ≡ after_all fresh bs)
batch_full bs a h =
    let is = ap (λ (l : List ℕ). is_open (report_in l)) (batch_figures bs (omega arith)) ∙ sym (numbers_full (figures_over bs) (omega (arith, all_are bs))) in
    let left = not_taken (after_all fresh bs) a is in
    (sym left.answer, sym left.numbers)
