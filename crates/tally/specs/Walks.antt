-- What is known between two terms of the walk over a record. For inner functions only.
use Rattle.std.specs.Prelude.{◌≡◌, ℕ, ◌+◌, ◌*◌, ◌%◌, ◌^◌, ◌<◌, ◌≤◌, Bool, true, not, ◌&&◌, Some, List, length, drop, ◌==◌, ◌≢◌, bit_or, nat_le, nat_lt, slice_index}
use Rattle.modes.specs.declared.Term.{Term}
use Rattle.modes.specs.Answers.{Verdict, none}
use Rattle.record.specs.Terms.{follows, weight}
use Rattle.record.specs.Reading.{At}
use Rattle.record.specs.Refusals.{term_refusal, terms_refusal}
use Rattle.tally.specs.Ranks.{of_rank}
use Rattle.tally.specs.declared.Seen.{Seen}
use Rattle.tally.specs.declared.Reached.{Reached}

-- may t come next, by its place alone
abbrev pub comes_after : Seen → Term → Bool
comes_after s = follows s.last

-- a term of the magnitude k may come next: it is not zero, neither of its words is above `top`, and it comes after the one before it
abbrev pub takes_next : ℕ → Term → ℕ → Seen → Bool
takes_next top t k s = not (k == 0) && (nat_le t.cre top && (nat_le t.ann top && comes_after s t))

-- a term more, of the magnitude k: the sum in 64 bits, and the bits of the sum
abbrev pub seen_with : Term → ℕ → Seen → Seen
seen_with t k s = let weight = (s.weight + k) % 2 ^ 64 in record { last = Some t; weight = weight; bits = bit_or s.bits weight }

-- no sum wrapped, and the last is no larger than a record's weight may be
abbrev pub is_light : Seen → Bool
is_light s = nat_lt s.bits (2 ^ 61) && nat_le s.weight (2 ^ 60)

-- what was seen of ts before the i-th term: nothing refuses a term so far; the sum is exact unless it had a bit too high, and it has
-- none where the weight of all is light
pub record Seeing (m : ℕ) (ts : List Term) (s : Seen) (i : ℕ) : Type 0 where
  pub rest : terms_refusal 1 m 0 (λ _. true) ts ≡ terms_refusal 1 m i (comes_after s) (drop i ts)
  pub held : s.weight ≤ s.bits
  pub exact : s.bits < 2 ^ 61 → s.weight + weight (drop i ts) ≡ weight ts
  pub low : weight ts ≤ 2 ^ 60 → s.bits < 2 ^ 61

-- a sum in 64 bits, which wrapped so many times
pub record Wraps (x left whole : ℕ) : Type 0 where
  pub times : ℕ
  pub is : x + times * 2 ^ 64 + left ≡ whole

-- what stands in a column for each rank, what is left from the i-th term on, and the whole, as P has them
abbrev pub Column : (ℕ → ℕ → ℕ → Type 0) → (List Term → ℕ) → List Term → ℕ → List ℕ → Type 0
Column P g ts i c = (r : ℕ) → r < 65 → P (slice_index c r) (g (of_rank r (drop i ts))) (g (of_rank r ts))

-- both columns before the i-th term
pub record Tallying (ts : List Term) (i : ℕ) (terms sizes : List ℕ) : Type 0 where
  pub terms_size : length terms ≡ 65
  pub sizes_size : length sizes ≡ 65
  pub number : Column (λ x left whole. x + left ≡ whole) length ts i terms
  pub sum : Column Wraps weight ts i sizes

-- r is the judgement of the i-th term by itself
pub record Refuses (m : ℕ) (ts : List Term) (s : Seen) (i : ℕ) (r : Verdict) : Type 0 where
  pub term : Term
  pub at : At ts i term
  pub is : r ≡ term_refusal 1 m i (comes_after s term) term

-- a walk over terms: what was seen as far as it went, the columns, and that the term at which it ended is refused
pub record Walked (m : ℕ) (ts : List Term) (w : Reached) (terms sizes : List ℕ) : Type 0 where
  pub bound : w.place ≤ length ts
  pub seeing : Seeing m ts w.seen w.place
  pub tallying : Tallying ts w.place terms sizes
  pub ended : w.place < length ts → (r : Verdict) → Refuses m ts w.seen w.place r → r ≢ none

-- r is the judgement of the term at which it ended, and none where that is behind the last
pub record Judges (m : ℕ) (ts : List Term) (w : Reached) (r : Verdict) : Type 0 where
  pub early : w.place < length ts → Refuses m ts w.seen w.place r
  pub whole : length ts ≤ w.place → r ≡ none
