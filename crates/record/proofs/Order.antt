-- The order of terms: annihilations first, then creations.
use mathlib.Core.Path.{◌≡◌, refl}
use mathlib.Core.Bool.{Bool, true, false, ◌&&◌, ◌||◌}
use mathlib.Core.List.{List, [], ◌∷◌}
use mathlib.Core.Logic.{◌⊎◌, inl, inr}
use Prim.Native.Nat.{◌≤◌, ◌<◌}
use native.Mathlib.Omega.{arith}
use lib.Dec.{eqb, ltb}
use borrow.Author.Tests.{eq-eqb, lt-ltb, le-ltb, eqb-true, ltb-true}
use Rattle.modes.specs.declared.Term.{Term}
use Rattle.modes.proofs.Bools.{and_l, and_r}
use Rattle.modes.proofs.Digits.{lt_or_ge}
use Rattle.modes.specs.Every.{none, more}
use Rattle.lent.specs.Rows.{Fit}
use Rattle.places.specs.Order.{key}
use Rattle.places.proofs.Keys.{key_low, key_high}
use Rattle.record.specs.Terms.{before, Above}

-- how two terms stand to each other
pub data Order (t u : Term) : Type 0 where
  lower : t.ann < u.ann → Order t u
  level : t.ann ≡ u.ann → t.cre < u.cre → Order t u

pub order : (t u : Term) → before t u ≡ true → Order t u
unfolding before
order t u e = go (ltb t.ann u.ann) refl e
  where
    go : (b : Bool) → ltb t.ann u.ann ≡ b → b || (eqb t.ann u.ann && ltb t.cre u.cre) ≡ true → Order t u
    go true q h = lower (ltb-true _ _ q)
    go false q h =
        level (eqb-true _ _ (and_l (eqb t.ann u.ann) (ltb t.cre u.cre) h)) (ltb-true _ _ (and_r (eqb t.ann u.ann) (ltb t.cre u.cre) h))

pub ordered : (t u : Term) → Order t u → before t u ≡ true
unfolding before
ordered t u (lower h) = rw (lt-ltb _ _ h)
ordered t u (level e h) = rw (le-ltb t.ann u.ann (omega arith), eq-eqb _ _ e, lt-ltb _ _ h)

-- the order of the terms is that of their keys
pub before_key : (t u : Term) → Fit t → before t u ≡ true → key t < key u
before_key t u f e = go (order t u e)
  where
    go : Order t u → key t < key u
    go (lower h) = key_high t.ann t.cre u.ann u.cre h f.cre
    go (level p h) = key_low t.ann t.cre u.ann u.cre p h

pub data Compared (t u : Term) : Type 0 where
  less : before t u ≡ true → Compared t u
  same : t.ann ≡ u.ann → t.cre ≡ u.cre → Compared t u
  greater : before u t ≡ true → Compared t u

pub compare : (t u : Term) → Compared t u
compare t u = go (lt_or_ge t.ann u.ann) (lt_or_ge u.ann t.ann) (lt_or_ge t.cre u.cre) (lt_or_ge u.cre t.cre)
  where
    go : (t.ann < u.ann) ⊎ (u.ann ≤ t.ann) → (u.ann < t.ann) ⊎ (t.ann ≤ u.ann) → (t.cre < u.cre) ⊎ (u.cre ≤ t.cre)
        → (u.cre < t.cre) ⊎ (t.cre ≤ u.cre) → Compared t u
    go (inl h) a b c = less (ordered t u (lower h))
    go (inr h) (inl k) b c = greater (ordered u t (lower k))
    go (inr h) (inr k) (inl b) c = less (ordered t u (level (omega arith) b))
    go (inr h) (inr k) (inr b) (inl c) = greater (ordered u t (level (omega arith) c))
    go (inr h) (inr k) (inr b) (inr c) = same (omega arith) (omega arith)

pub before_trans : (t u v : Term) → before t u ≡ true → before u v ≡ true → before t v ≡ true
before_trans t u v e f = ordered t v (go (order t u e) (order u v f))
  where
    go : Order t u → Order u v → Order t v
    go (lower h) (lower k) = lower (omega arith)
    go (lower h) (level p k) = lower (omega arith)
    go (level p h) (lower k) = lower (omega arith)
    go (level p h) (level q k) = level (omega arith) (omega arith)

-- not both ways
pub before_one_way : (t u : Term) → before t u ≡ true → before u t ≡ true → ⊥
before_one_way t u e f = go (order t u e) (order u t f)
  where
    go : Order t u → Order u t → ⊥
    go (lower h) (lower k) = omega arith
    go (lower h) (level p k) = omega arith
    go (level p h) (lower k) = omega arith
    go (level p h) (level q k) = omega arith

pub above_trans : (t u : Term) (ts : List Term) → before t u ≡ true → Above u ts → Above t ts
above_trans t u [] e none = none
above_trans t u (v ∷ ts) e (more f h) = more (before_trans t u v e f) (above_trans t u ts e h)
