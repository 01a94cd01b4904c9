-- A report over records: its numbers, when it is taken, and what a record more makes of it.
use Rattle.std.specs.Prelude.{◌≡◌, ℕ, zero, suc, ◌+◌, ◌*◌, ◌/◌, ◌%◌, ◌^◌, max, Bool, true, ◌&&◌, List, [], ◌∷◌, Result, leb, ltb, length, get_or}
use Rattle.modes.specs.declared.Term.{Term}
use Rattle.modes.specs.declared.Refusal.{Refusal}
use Rattle.modes.specs.declared.Reason.TheVariants.{BadReport}
use Rattle.modes.specs.Answers.{Verdict, refusal}
use Rattle.modes.specs.Refusals.{need, unless, answered}
use Rattle.record.specs.Terms.{weight}
use Rattle.record.specs.Operands.{Operand}
use Rattle.tally.specs.Ranks.{of_rank}

-- terms counted, and their weight, which is high times 2^60 plus low
pub record Share : Type 0 where
  pub terms : ℕ
  pub high : ℕ
  pub low : ℕ

pub record Report : Type 0 where
  pub accepted : ℕ
  pub refused : ℕ
  pub total : Share
  pub largest : ℕ
  pub rank : ℕ → Share

-- the share whose three numbers stand at p, and the report of 201 numbers
abbrev pub share_in : List ℕ → ℕ → Share
share_in l p = record { terms = get_or l p 0; high = get_or l (p + 1) 0; low = get_or l (p + 2) 0 }

abbrev pub report_in : List ℕ → Report
report_in l =
    record {
      accepted = get_or l 0 0;
      refused = get_or l 1 0;
      total = share_in l 2;
      largest = get_or l 5 0;
      rank = λ r. share_in l (6 + 3 * r);
    }

-- and its numbers: those of n shares from rank r on, and those of all
unfoldable pub shares_from : (ℕ → Share) → ℕ → ℕ → List ℕ
shares_from f r zero = []
shares_from f r (suc n) = (f r).terms ∷ (f r).high ∷ (f r).low ∷ shares_from f (suc r) n

abbrev pub numbers_of : Report → List ℕ
numbers_of p = p.accepted ∷ p.refused ∷ p.total.terms ∷ p.total.high ∷ p.total.low ∷ p.largest ∷ shares_from p.rank 0 65

-- a share within its limits, and those of all ranks below n
unfoldable pub within : Share → Bool
within s = leb s.terms (2 ^ 21) && (leb s.high 1024 && ltb s.low (2 ^ 60))

unfoldable pub all_within : (ℕ → Share) → ℕ → Bool
all_within f zero = true
all_within f (suc n) = all_within f n && within (f n)

-- a record more may be counted
abbrev pub is_open : Report → Bool
is_open p = ltb (p.accepted + p.refused) 1024 && (within p.total && all_within p.rank 65)

-- n terms more, of the weight w
abbrev pub grow : ℕ → ℕ → Share → Share
grow n w s = record { terms = s.terms + n; high = s.high + (s.low + w) / 2 ^ 60; low = (s.low + w) % 2 ^ 60 }

-- an accepted record more, and a refused one
abbrev pub with_accepted : List Term → Report → Report
with_accepted ts p =
    record {
      accepted = p.accepted + 1;
      refused = p.refused;
      total = grow (length ts) (weight ts) p.total;
      largest = max p.largest (weight ts);
      rank = λ r. grow (length (of_rank r ts)) (weight (of_rank r ts)) (p.rank r);
    }

abbrev pub with_refused : Report → Report
with_refused p = record { accepted = p.accepted; refused = p.refused + 1; total = p.total; largest = p.largest; rank = p.rank }

abbrev pub with_record : Operand → Report → Report
with_record a p = unless a.refusal (λ _. with_refused p) (with_accepted a.terms p)

-- 15, which leaves the report as it came and does not ask what the record is
abbrev pub report_refusal : List ℕ → Verdict
report_refusal l = need (is_open (report_in l)) (refusal BadReport 0 0)

-- the report after a call, number by number, and the call's answer: the judgement of the record, where the report is taken
abbrev pub report_after : List ℕ → Operand → List ℕ
report_after l a = unless (report_refusal l) (λ _. l) (numbers_of (with_record a (report_in l)))

abbrev pub counted_of : List ℕ → Operand → Result Verdict Refusal
counted_of l a = answered (report_refusal l) a.refusal

-- both at the end of a call
pub record Counts (l : List ℕ) (a : Operand) (r : Result Verdict Refusal) (k : List ℕ) : Type 0 where
  pub answer : r ≡ counted_of l a
  pub numbers : k ≡ report_after l a
