-- The rank of a term beside half of its ladders, rounded down, which is zixy's `count_n_body`.
use mathlib.Core.Path.{◌≡◌, refl, ap₂}
use mathlib.Core.Bool.{true}
use mathlib.Core.List.{List, [], ◌∷◌}
use Prim.Native.Nat.{ℕ, ◌+◌, ◌/◌, ◌≤◌, max}
use native.Mathlib.Omega.{arith}
use lib.IntN.{pos}
use borrow.Author.Tests.{eqb-true, eq-eqb}
use Rattle.modes.specs.Words.{bit}
use Rattle.modes.specs.Counts.{count}
use Rattle.modes.specs.Terms.{creations, annihilations}
use Rattle.modes.specs.declared.Term.{Term}
use Rattle.modes.proofs.Bools.{and_l, and_r}
use Rattle.figures.specs.Figures.{conserves, conserving, rank_of, largest_rank}

abbrev pub half_of : Term → ℕ
half_of t = (creations t + annihilations t) / 2

module _ (t : Term) where
  -- with as many creations as annihilations they are the same
  pub halved_where_conserving : conserves t ≡ true → rank_of t ≡ half_of t
  unfolding rank_of
  halved_where_conserving e = omega (arith, eqb-true (creations t) (annihilations t) e)

  -- and only then
  pub conserving_where_halved : rank_of t ≡ half_of t → conserves t ≡ true
  unfolding rank_of
  conserving_where_halved e = eq-eqb (creations t) (annihilations t) (omega (arith, e))

  -- the half is never above the rank
  pub half_is_no_more : half_of t ≤ rank_of t
  unfolding rank_of
  half_is_no_more = omega arith

-- the largest half, which is zixy's `max_n_body`
pub largest_half : List Term → ℕ
largest_half [] = 0
largest_half (t ∷ ts) = max (half_of t) (largest_half ts)

-- where all terms conserve, it is the largest rank
pub halves_where_conserving : (ts : List Term) → conserving ts ≡ true → largest_rank ts ≡ largest_half ts
unfolding conserving largest_rank largest_half
halves_where_conserving [] e = refl
halves_where_conserving (t ∷ ts) e =
    ap₂ max (halved_where_conserving t (and_l (conserves t) _ e)) (halves_where_conserving ts (and_r (conserves t) _ e))

-- {|} has rank 0, {0|} rank 1, {0,1|2} rank 2
abbrev rank : ℕ → ℕ → ℕ
rank cre ann = rank_of (record { cre = cre; ann = ann; coeff = pos 1 })

pub ranks_stated : (rank 0 0 ≡ 0) × (rank 1 0 ≡ 1) × (rank 3 4 ≡ 2)
unfolding rank_of count bit
ranks_stated = (refl, refl, refl)
