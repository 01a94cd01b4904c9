-- The terms and the weights of the ranks, counted while the terms are looked at.
use Rattle.std.proofs.Common.{◌≡◌, ℕ, ◌+◌, ◌/◌, ◌%◌, ◌^◌, ◌<◌, ◌≤◌, true, false, List, [], length, get_or, drop, set, nat_abs, sym, refl, ◌∙◌, div-add-mod', arith, length-set}
use Rattle.modes.specs.declared.Term.{Term}
use Rattle.modes.specs.declared.Refusal.{Refusal}
use Rattle.std.specs.Prelude.{Result, Ok, Err}
use Rattle.modes.specs.declared.Refusal.{Refusal}
use Rattle.modes.specs.declared.Reason.TheVariants.{Malformed}
use Rattle.modes.specs.Answers.{refusal}
use Rattle.record.specs.Terms.{weight}
use Rattle.record.specs.Reading.{At}
use Rattle.record.specs.Layout.{laid_out, terms_in, count_of}
use Rattle.record.specs.Refusals.{checked_of}
use Rattle.record.specs.declared.Checked.{Checked}
use Rattle.record.proofs.Header.{laid}
use Rattle.record.proofs.Accepted.{accepted}
use Rattle.record.proofs.Checking.{refused_is, not_laid}
use Rattle.record.proofs.Reading.{none_left}
use Rattle.figures.specs.Figures.{rank_of}
use Rattle.tally.specs.Tallies.{none_yet, Tallied, Tallies}
use Rattle.tally.specs.Walks.{Wraps, Tallying}
use Rattle.tally.proofs.Ranks.{lengths, weights, rank_part, column_starts, column_ends, column_here, column_goes}

abbrev Adds : ℕ → ℕ → ℕ → Type 0
Adds x left whole = x + left ≡ whole

wraps_more : (x k left whole : ℕ) → Wraps x (k + left) whole → Wraps ((x + k) % 2 ^ 64) left whole
wraps_more x k left whole g =
    record {
      times = g.times + (x + k) / 2 ^ 64;
      is = omega (arith, g.is, div-add-mod' (x + k) (2 ^ 64));
    }

module _ (ts : List Term) where
  pub tally_starts : Tallying ts 0 none_yet none_yet
  tally_starts =
      record {
        terms_size = refl;
        sizes_size = refl;
        number = column_starts Adds lengths ts (λ x. omega arith);
        sum = column_starts Wraps weights ts (λ x. record { times = 0; is = omega arith });
      }

  module _ (i : ℕ) (terms sizes : List ℕ) (g : Tallying ts i terms sizes) where
    -- no sum of a rank wrapped where that of all is light
    pub tally_ends : weight ts ≤ 2 ^ 60 → drop i ts ≡ [] → Tallied ts terms sizes
    tally_ends light e =
        record {
          number = λ r b. omega (arith, column_ends Adds lengths ts i terms g.number e r b);
          sum = λ r b.
              let found = column_ends Wraps weights ts i sizes g.sum e r b in
              omega (arith, found.is, rank_part weights r ts);
        }

    -- one term further, of the rank r and the magnitude k
    module _ (t : Term) (at : At ts i t) (r : ℕ) (rank : (r ≡ rank_of t) × (r ≤ 64)) where
      low : r < 65
      low = omega (arith, rank.1)

      pub number_fits : (n : ℕ) → length ts ≡ n → n < 2 ^ 64 → get_or terms r 0 + 1 < 2 ^ 64
      number_fits n e b =
          let here = column_here Adds lengths ts i terms g.number t at r rank.0 low in
          omega (arith, here, rank_part lengths r ts)

      module _ (k : ℕ) (is : k ≡ nat_abs t.coeff) where
        pub tally_goes : (x y : ℕ) → x ≡ get_or terms r 0 + 1 → y ≡ (get_or sizes r 0 + k) % 2 ^ 64 → Tallying ts (i + 1) (set terms r x) (set sizes r y)
        tally_goes x y ex ey =
            record {
              terms_size = length-set terms r _ ∙ g.terms_size;
              sizes_size = length-set sizes r _ ∙ g.sizes_size;
              number = column_goes Adds lengths ts i terms g.number t at r rank.0 low g.terms_size x (λ left whole so. omega (arith, ex));
              sum =
                  column_goes Wraps weights ts i sizes g.sum t at r rank.0 low g.sizes_size y
                  (λ left whole so. rw ey (wraps_more (get_or sizes r 0) k left whole (rw (← is) at so)));
            }

-- what is found of the bytes l once all terms were looked at
pub all_found : (l : List ℕ) (c : Checked) → Ok c ≡ checked_of 1 l → (n : ℕ) → n ≡ count_of l → (i : ℕ) (terms sizes : List ℕ)
    → Tallying (terms_in l n) i terms sizes → n ≤ i → Tallies l (Ok c) terms sizes
all_found l c e n count i terms sizes g done =
    record {
      checked = e;
      tallied = λ k z.
          let light : weight (terms_in l n) ≤ 2 ^ 60 = rw count (accepted 1 l c e).canonical.light in
          rw (← count) (tally_ends (terms_in l n) i terms sizes g light (none_left l n i done));
    }

-- or once it is refused: nothing is told of the columns then
pub refused_found : (l : List ℕ) (r : Refusal) → Err r ≡ checked_of 1 l → (terms sizes : List ℕ) → Tallies l (Err r) terms sizes
refused_found l r e terms sizes = record { checked = e; tallied = λ k z. cc }

pub header_found : (l : List ℕ) (c : Result Checked Refusal) → c ≡ checked_of 1 l → laid_out l ≡ false → (terms sizes : List ℕ) → Tallies l c terms sizes
header_found l c e bad terms sizes =
    let told : c ≡ Err (refusal Malformed 1 0) = e ∙ sym (refused_is 1 l (refusal Malformed 1 0) (not_laid 1 l bad)) in
    record { checked = e; tallied = λ k z. cc }

-- and a laid out one has its header
pub header_there : (l : List ℕ) → laid_out l ≡ true → 32 ≤ length l
header_there l good = omega (arith, (laid l good).size)
