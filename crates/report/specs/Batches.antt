-- Byte strings counted in turn into a fresh report, and the figures of all of them at once.
use Rattle.std.specs.Prelude.{ℕ, ◌/◌, ◌%◌, ◌^◌, max, Bool, not, List, [], ◌∷◌, is_ok, length, replicate}
use Rattle.modes.specs.Sums.{sum_by, amount_of}
use Rattle.record.specs.Terms.{weight}
use Rattle.record.specs.Layout.{terms_of}
use Rattle.record.specs.Operands.{read_as}
use Rattle.record.specs.Refusals.{refusal_of}
use Rattle.tally.specs.Ranks.{chosen, of_rank}
use Rattle.report.specs.Reports.{Share, Report, report_after}

abbrev pub fresh : List ℕ
fresh = replicate 201 0

-- the numbers after a call for each of the byte strings, which may be records or not
unfoldable pub after_all : List ℕ → List (List ℕ) → List ℕ
after_all l [] = l
after_all l (b ∷ bs) = after_all (report_after l (read_as 1 b)) bs

-- those that are accepted as records, and those that are not
abbrev pub is_accepted : List ℕ → Bool
is_accepted b = is_ok (refusal_of 1 b)

abbrev pub accepted_of : List (List ℕ) → List (List ℕ)
accepted_of = chosen is_accepted

abbrev pub refused_of : List (List ℕ) → List (List ℕ)
refused_of = chosen (λ b. not (is_accepted b))

-- n terms of the weight w
abbrev pub share_of : ℕ → ℕ → Share
share_of n w = record { terms = n; high = w / 2 ^ 60; low = w % 2 ^ 60 }

-- the figures of all: sums, and the largest weight, over those that are accepted
abbrev pub figures_over : List (List ℕ) → Report
figures_over bs =
    record {
      accepted = length (accepted_of bs);
      refused = length (refused_of bs);
      total = share_of (amount_of (λ b. length (terms_of b)) (accepted_of bs)) (amount_of (λ b. weight (terms_of b)) (accepted_of bs));
      largest = sum_by max 0 (λ b. weight (terms_of b)) (accepted_of bs);
      rank = λ r.
          share_of (amount_of (λ b. length (of_rank r (terms_of b))) (accepted_of bs)) (amount_of (λ b. weight (of_rank r (terms_of b))) (accepted_of bs));
    }

-- the same entries in another order
pub data Reordered {A : Type 0} : List A → List A → Type 0 where
  nothing : Reordered [] []
  after : {x : A} {l m : List A} → Reordered l m → Reordered (x ∷ l) (x ∷ m)
  swapped : {x y : A} {l : List A} → Reordered (x ∷ y ∷ l) (y ∷ x ∷ l)
  both : {k l m : List A} → Reordered k l → Reordered l m → Reordered k m
