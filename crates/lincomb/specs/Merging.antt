-- How the code goes through the terms of two records in step. For inner functions only.
use Rattle.std.specs.Prelude.{◌≡◌, ℕ, ◌+◌, ◌≤◌, ◌<◌, Bool, cond, List, [], ◌∷◌, map, drop, length}
use Rattle.modes.specs.declared.Term.{Term}
use Rattle.record.specs.Terms.{before}
use Rattle.normal.specs.Normal.{join}
use Rattle.lincomb.specs.Sums.{turn}
use Rattle.lincomb.specs.declared.Step.{Step}

-- two ascending lists in one, like terms joined
unfoldable pub merge : List Term → List Term → List Term
merge [] us = us
merge (t ∷ ts) [] = t ∷ ts
merge (t ∷ ts) (u ∷ us) =
    let first = merge ts (u ∷ us) in
    let second = merge (t ∷ ts) us in
    let both = merge ts us in
    cond (before t u) (t ∷ first) (cond (before u t) (u ∷ second) (join t u ∷ both))

-- what is left of the merged terms once i terms of the first and j of the second are taken
abbrev pub onward : Bool → List Term → ℕ → List Term → ℕ → List Term
onward minus ts i us j = merge (drop i ts) (map (turn minus) (drop j us))

-- 1 where the first of ts is the next term or a part of it, and 0 where it is not, or there is none
abbrev pub taken : List Term → List Term → ℕ
taken [] us = 0
taken (t ∷ ts) [] = 1
taken (t ∷ ts) (u ∷ us) = cond (before u t) 0 1

-- one step: the next term of these, and where each record goes on
pub record Pulled (minus : Bool) (ts : List Term) (i : ℕ) (us : List Term) (j : ℕ) (s : Step) : Type 0 where
  pub front : onward minus ts i us j ≡ s.term ∷ onward minus ts s.left us s.right
  pub left : s.left ≡ i + taken (drop i ts) (map (turn minus) (drop j us))
  pub right : s.right ≡ j + taken (map (turn minus) (drop j us)) (drop i ts)
  pub left_in : s.left ≤ length ts
  pub right_in : s.right ≤ length us
  pub on : i + j < s.left + s.right
