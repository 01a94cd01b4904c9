-- The limits of a report, share by share.
use mathlib.Core.Path.{◌≡◌, refl, sym, ap, ◌∙◌}
use mathlib.Core.Logic.{⊎_elim}
use mathlib.Core.Bool.{true, false}
use Prim.Native.Nat.{ℕ, zero, suc, ◌+◌, ◌^◌, ◌≤◌, ◌<◌}
use native.Mathlib.Omega.{arith}
use lib.Dec.{leb, ltb}
use borrow.Author.Tests.{le-leb, lt-ltb, le-ltb, leb-true, ltb-true}
use Rattle.modes.proofs.Bools.{and_l, and_r}
use Rattle.modes.proofs.Digits.{lt_or_ge}
use Rattle.report.specs.Reports.{Share, Report, within, all_within, is_open}

-- a share within its limits
pub record Limited (s : Share) : Type 0 where
  pub terms : s.terms ≤ 2 ^ 21
  pub high : s.high ≤ 1024
  pub low : s.low < 2 ^ 60

pub limited : (s : Share) → within s ≡ true → Limited s
unfolding within
limited s e =
    let rest = and_r (leb s.terms (2 ^ 21)) _ e in
    record {
      terms = leb-true _ _ (and_l (leb s.terms (2 ^ 21)) _ e);
      high = leb-true _ _ (and_l (leb s.high 1024) _ rest);
      low = ltb-true _ _ (and_r (leb s.high 1024) _ rest);
    }

pub within_limits : (s : Share) → Limited s → within s ≡ true
unfolding within
within_limits s k = rw (le-leb _ _ k.terms, le-leb _ _ k.high, lt-ltb _ _ k.low)

module _ (f : ℕ → Share) where
  pub rank_within : (n r : ℕ) → all_within f n ≡ true → r < n → within (f r) ≡ true
  unfolding all_within
  rank_within zero r e h = absurd (omega arith)
  rank_within (suc n) r e h =
      ⊎_elim (λ k. rank_within n r (and_l (all_within f n) _ e) k)
      (λ k. let q : n ≡ r = omega arith in ap (λ (i : ℕ). within (f i)) (sym q) ∙ and_r (all_within f n) _ e) (lt_or_ge r n)

  pub ranks_within : (n : ℕ) → ((r : ℕ) → r < n → within (f r) ≡ true) → all_within f n ≡ true
  unfolding all_within
  ranks_within zero h = refl
  ranks_within (suc n) h = rw (ranks_within n (λ r k. h r (omega arith)), h n (omega arith))

-- ---- a report that is taken

module _ (p : Report) where
  pub full : 1024 ≤ p.accepted + p.refused → false ≡ is_open p
  full h = rw (le-ltb _ _ h)

  pub record Open : Type 0 where
    pub few : p.accepted + p.refused < 1024
    pub total : Limited p.total
    pub ranks : (r : ℕ) → r < 65 → Limited (p.rank r)

  pub opened : is_open p ≡ true → Open
  opened e =
      let count = ltb (p.accepted + p.refused) 1024 in
      let rest = and_r count _ e in
      record {
        few = ltb-true _ _ (and_l count _ e);
        total = limited _ (and_l (within p.total) _ rest);
        ranks = λ r h. limited _ (rank_within p.rank 65 r (and_r (within p.total) _ rest) h);
      }

  pub open_is : Open → is_open p ≡ true
  open_is o =
      rw (lt-ltb _ _ o.few, within_limits _ o.total) (ranks_within p.rank 65 (λ r h. within_limits _ (o.ranks r h)))
