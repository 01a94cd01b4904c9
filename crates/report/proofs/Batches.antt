-- One call more on the figures of some byte strings gives the figures of these and the new one.
use mathlib.Core.Path.{◌≡◌, refl, sym, ap, ◌∙◌}
use mathlib.Core.Bool.{Bool, true, false, cond, not}
use mathlib.Core.List.{List, [], ◌∷◌}
use Prim.Native.Nat.{ℕ, suc, ◌+◌, ◌*◌, ◌/◌, ◌%◌, ◌^◌, ◌≤◌, ◌<◌, max}
use native.Mathlib.Nat.{mod-lt, mod-add-mod, mul-add-div, div-add-mod, div-le_of_le-mul, add_comm, mul-suc}
use native.Mathlib.Omega.{arith}
use lib.ListN.{length}
use Rattle.modes.specs.Sums.{sum_by, amount_of}
use Rattle.std.specs.Prelude.{Ok, Err, is_ok}
use Rattle.modes.specs.Answers.{Verdict, none}
use Rattle.record.specs.Refusals.{refusal_of}
use Rattle.modes.specs.Refusals.{unless}
use Rattle.modes.proofs.Refusals.{unless_not}
use Rattle.record.specs.Terms.{weight}
use Rattle.record.specs.Layout.{terms_of}
use Rattle.record.specs.Operands.{Operand, read_as}
use Rattle.record.proofs.Accepted.{accepted_canonical}
use Rattle.tally.specs.Ranks.{chosen, of_rank}
use Rattle.report.specs.Reports.{Report, report_in, numbers_of, is_open, grow, with_record, report_after}
use Rattle.report.specs.Batches.{is_accepted, accepted_of, refused_of, share_of, figures_over}
use Rattle.report.proofs.Limits.{Limited, Open, open_is, full}
use Rattle.report.proofs.Numbers.{Agree, same_numbers_is, read_back}
use Rattle.tally.proofs.Ranks.{rank_part, lengths, weights}

-- ---- shares of sums

-- a share that grows is that of the larger sums
pub share_grows : (n w m v : ℕ) → grow n w (share_of m v) ≡ share_of (n + m) (w + v)
share_grows n w m v =
    let q = 2 ^ 60 in
    let all : w + v ≡ q * (v / q) + (v % q + w) = omega (arith, div-add-mod v q) in
    let high : v / q + (v % q + w) / q ≡ (w + v) / q = sym (ap (λ (x : ℕ). x / q) all ∙ mul-add-div {m = q} (omega arith) (v / q) (v % q + w)) in
    let low : (v % q + w) % q ≡ (w + v) % q = mod-add-mod v q w ∙ ap (λ (x : ℕ). x % q) (add_comm v w) in
    rw (add_comm m n, high, low)

-- the sums of c records are within the limits
pub share_limited : (n w c : ℕ) → n ≤ 2048 * c → w ≤ 2 ^ 60 * c → c ≤ 1024 → Limited (share_of n w)
share_limited n w c few light h =
    record { terms = omega arith; high = omega (arith, div-le_of_le-mul (2 ^ 60) {m = w} {n = c} light); low = mod-lt w (omega arith) }

-- ---- sums over the accepted ones

module _ (b : List ℕ) (bs : List (List ℕ)) where
  pub accepts : is_accepted b ≡ true → accepted_of (b ∷ bs) ≡ b ∷ accepted_of bs
  unfolding chosen
  accepts e = rw e

  pub refuses : is_accepted b ≡ false → accepted_of (b ∷ bs) ≡ accepted_of bs
  unfolding chosen
  refuses e = rw e

-- accepted and refused ones are all
pub all_are : (bs : List (List ℕ)) → length (accepted_of bs) + length (refused_of bs) ≡ length bs
unfolding chosen
all_are [] = refl
all_are (b ∷ bs) = go (is_accepted b) (all_are bs)
  where
    go : (x : Bool) → length (accepted_of bs) + length (refused_of bs) ≡ length bs
        → length (cond x (b ∷ accepted_of bs) (accepted_of bs)) + length (cond (not x) (b ∷ refused_of bs) (refused_of bs)) ≡ suc (length bs)
    go true h = omega arith
    go false h = omega arith

-- a figure that is at most k for each accepted one
pub at_most : (f : List ℕ → ℕ) (k : ℕ) → ((b : List ℕ) → is_accepted b ≡ true → f b ≤ k) → (bs : List (List ℕ))
    → amount_of f (accepted_of bs) ≤ k * length bs
unfolding chosen sum_by
at_most f k h [] = omega arith
at_most f k h (b ∷ bs) = go (is_accepted b) (h b) (at_most f k h bs)
  where
    go : (x : Bool) → (x ≡ true → f b ≤ k) → sum_by ◌+◌ 0 f (chosen is_accepted bs) ≤ k * length bs
        → sum_by ◌+◌ 0 f (cond x (b ∷ chosen is_accepted bs) (chosen is_accepted bs)) ≤ k * suc (length bs)
    go true here rest = omega (arith, here refl, mul-suc k (length bs))
    go false here rest = omega (arith, mul-suc k (length bs))

ok_is_none : (v : Verdict) → is_ok v ≡ true → v ≡ none
ok_is_none (Ok x) e = refl
ok_is_none (Err r) e = cc

-- the figures of fewer than 1,024 leave the report open
module _ (bs : List (List ℕ)) (few : length bs < 1024) where
  terms_few : (b : List ℕ) → is_accepted b ≡ true → length (terms_of b) ≤ 2048
  terms_few b e = (accepted_canonical 1 b (ok_is_none _ e)).few

  weight_light : (b : List ℕ) → is_accepted b ≡ true → weight (terms_of b) ≤ 2 ^ 60
  weight_light b e = (accepted_canonical 1 b (ok_is_none _ e)).light

  limited_by : (f g : List ℕ → ℕ) → ((b : List ℕ) → is_accepted b ≡ true → f b ≤ 2048) → ((b : List ℕ) → is_accepted b ≡ true → g b ≤ 2 ^ 60)
      → Limited (share_of (amount_of f (accepted_of bs)) (amount_of g (accepted_of bs)))
  limited_by f g hf hg = share_limited _ _ (length bs) (at_most f 2048 hf bs) (at_most g (2 ^ 60) hg bs) (omega arith)

  pub figures_open : Open (figures_over bs)
  figures_open =
      record {
        few = rw (all_are bs) few;
        total = limited_by (λ b. length (terms_of b)) (λ b. weight (terms_of b)) terms_few weight_light;
        ranks = λ r h.
            limited_by (λ b. length (of_rank r (terms_of b))) (λ b. weight (of_rank r (terms_of b)))
            (λ b e. omega (arith, terms_few b e, rank_part lengths r (terms_of b))) (λ b e. omega (arith, weight_light b e, rank_part weights r (terms_of b)));
      }

-- ---- a call more

-- counting respects agreement
with_agree : (a : Operand) (p q : Report) → Agree p q → Agree (with_record a p) (with_record a q)
unfolding unless
with_agree a p q g = go a.refusal refl
  where
    go : (v : Verdict) → a.refusal ≡ v → Agree (with_record a p) (with_record a q)
    go (Ok x) e =
        rw e (record {
          accepted = ap (λ (x : ℕ). x + 1) g.accepted;
          refused = g.refused;
          total = ap (grow _ _) g.total;
          largest = ap (λ (x : ℕ). max x (weight a.terms)) g.largest;
          rank = λ r h. ap (grow _ _) (g.rank r h);
        })
    go (Err r) e = rw e (record { accepted = g.accepted; refused = ap (λ (x : ℕ). x + 1) g.refused; total = g.total; largest = g.largest; rank = g.rank })

open_agree : (p q : Report) → Agree p q → Open q → Open p
open_agree p q g o =
    record {
      few = rw (g.accepted, g.refused) o.few;
      total = rw g.total o.total;
      ranks = λ r h. rw (g.rank r h) (o.ranks r h);
    }

-- the numbers of a report are open where it is, and not where it counts 1,024
pub numbers_open : (p : Report) → Open p → is_open (report_in (numbers_of p)) ≡ true
numbers_open p o = open_is (report_in (numbers_of p)) (open_agree _ p (read_back p) o)

pub numbers_full : (p : Report) → 1024 ≤ p.accepted + p.refused → false ≡ is_open (report_in (numbers_of p))
numbers_full p h = full (report_in (numbers_of p)) h

-- the numbers after a call
pub one_more : (p : Report) (a : Operand) → Open p → report_after (numbers_of p) a ≡ numbers_of (with_record a p)
one_more p a o = rw (numbers_open p o) (unless_not none _ _ refl ∙ same_numbers_is _ _ (with_agree a _ p (read_back p)))

-- one byte string more
pub with_one : (b : List ℕ) (bs : List (List ℕ)) → Agree (with_record (read_as 1 b) (figures_over bs)) (figures_over (b ∷ bs))
unfolding chosen sum_by unless
with_one b bs = go (refusal_of 1 b) refl
  where
    go : (v : Verdict) → refusal_of 1 b ≡ v → Agree (with_record (read_as 1 b) (figures_over bs)) (figures_over (b ∷ bs))
    go (Ok x) e =
        rw e (record {
          accepted = omega arith;
          refused = refl;
          total = share_grows _ _ _ _;
          largest = omega arith;
          rank = λ r h. share_grows _ _ _ _;
        })
    go (Err r) e = rw e (record { accepted = refl; refused = omega arith; total = refl; largest = refl; rank = λ r h. refl })
