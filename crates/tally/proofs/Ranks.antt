-- The terms of one rank, and figures that are sums over terms.
use Rattle.std.proofs.Common.{◌≡◌, ℕ, ◌+◌, ◌<◌, ◌≤◌, Bool, true, false, cond, eqb, List, [], ◌∷◌, length, get_or, drop, set, nat_abs, sym, refl, ap, ◌∙◌, le_refl, arith, get_or-set_other, get_or-set_same, eq-eqb, ne_eqb, eqb-true}
use lib.ListN.{get_or-replicate}
use borrow.Author.Tests.{eqb-false}
use Rattle.modes.specs.declared.Term.{Term}
use Rattle.record.specs.Terms.{weight}
use Rattle.record.specs.Reading.{At}
use Rattle.figures.specs.Figures.{rank_of}
use Rattle.tally.specs.Ranks.{chosen, of_rank}
use Rattle.tally.specs.Tallies.{none_yet}
use Rattle.tally.specs.Walks.{Column}

module _ (r : ℕ) (ts us : List Term) (t : Term) (e : ts ≡ t ∷ us) where
  rank_here : rank_of t ≡ r → of_rank r ts ≡ t ∷ of_rank r us
  unfolding chosen
  rank_here q = rw (e, eq-eqb _ _ q)

  rank_elsewhere : (rank_of t ≡ r → ⊥) → of_rank r ts ≡ of_rank r us
  unfolding chosen
  rank_elsewhere q = rw (e, ne_eqb _ _ q)

rank_none : (r : ℕ) (ts : List Term) → ts ≡ [] → of_rank r ts ≡ []
unfolding chosen
rank_none r ts e = rw e

-- a figure g that sums a figure f of each term: how many, and how heavy they are
pub record Additive (f : Term → ℕ) (g : List Term → ℕ) : Type 0 where
  pub none : g [] ≡ 0
  pub more : (t : Term) (ts : List Term) → g (t ∷ ts) ≡ f t + g ts

pub lengths : Additive (λ _. 1) length
lengths = record { none = refl; more = λ t ts. omega arith }

pub weights : Additive (λ t. nat_abs t.coeff) weight
unfolding weight
weights = record { none = refl; more = λ t ts. refl }

module _ {f : Term → ℕ} {g : List Term → ℕ} (sums : Additive f g) where
  pub no_terms : (ts : List Term) → length ts ≡ 0 → g ts ≡ 0
  no_terms [] e = sums.none
  no_terms (t ∷ ts) e = absurd (omega (arith, e))

  -- that of one rank is part of that of all
  pub rank_part : (r : ℕ) (ts : List Term) → g (of_rank r ts) ≤ g ts
  unfolding chosen
  rank_part r [] = le_refl (g [])
  rank_part r (t ∷ ts) = go (eqb (rank_of t) r) (rank_part r ts)
    where
      go : (b : Bool) → g (of_rank r ts) ≤ g ts → g (cond b (t ∷ of_rank r ts) (of_rank r ts)) ≤ g (t ∷ ts)
      go true h = omega (arith, sums.more t (of_rank r ts), sums.more t ts)
      go false h = omega (arith, sums.more t ts)

-- ---- a column of 65 numbers, one for each rank

-- what holds of a number that is stored at i, and of those at other places, holds of all
pub with_stored : (c : List ℕ) (i x r : ℕ) → i < length c → (P : ℕ → Type 0) → (i ≡ r → P x) → ((i ≡ r → ⊥) → P (get_or c r 0))
    → P (get_or (set c i x) r 0)
with_stored c i x r h P here there = go (eqb i r) refl
  where
    go : (b : Bool) → eqb i r ≡ b → P (get_or (set c i x) r 0)
    go true e = let q : i ≡ r = eqb-true i r e in rw (← q, get_or-set_same c i x 0 h) (here q)
    go false e = let q : i ≡ r → ⊥ = eqb-false i r e in rw (get_or-set_other c i r x 0 (λ z. q (sym z))) (there q)

module _ (P : ℕ → ℕ → ℕ → Type 0) {f : Term → ℕ} {g : List Term → ℕ} (sums : Additive f g) (ts : List Term) where
  pub column_starts : ((x : ℕ) → P 0 x x) → Column P g ts 0 none_yet
  column_starts start r h = rw (get_or-replicate 65 r (the_zero) 0 h) (start (g (of_rank r ts)))
    where
      the_zero : ℕ
      the_zero = 0

  module _ (i : ℕ) (c : List ℕ) (so : Column P g ts i c) where
    pub column_ends : drop i ts ≡ [] → (r : ℕ) → r < 65 → P (get_or c r 0) 0 (g (of_rank r ts))
    column_ends e r h = rw (ap g (rank_none r (drop i ts) e) ∙ sums.none) at (so r h)

    -- a term of the rank r
    module _ (t : Term) (at : At ts i t) (r : ℕ) (is : r ≡ rank_of t) (low : r < 65) where
      own : g (of_rank r (drop i ts)) ≡ f t + g (of_rank r (drop (i + 1) ts))
      own = ap g (rank_here r _ _ t at (sym is)) ∙ sums.more t _

      pub column_here : P (get_or c r 0) (f t + g (of_rank r (drop (i + 1) ts))) (g (of_rank r ts))
      column_here = rw own at (so r low)

      pub column_goes : length c ≡ 65 → (x : ℕ) → ((left whole : ℕ) → P (get_or c r 0) (f t + left) whole → P x left whole) → Column P g ts (i + 1) (set c r x)
      column_goes size x step q h =
          with_stored c r x q (rw size low) (λ y. P y (g (of_rank q (drop (i + 1) ts))) (g (of_rank q ts)))
          (λ e. rw (← e) (step _ _ column_here)) (λ e. rw (ap g (rank_elsewhere q _ _ t at (λ z. e (is ∙ z)))) at (so q h))
