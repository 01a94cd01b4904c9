-- The order in which terms are named: fewer annihilations first, then the order of terms.
use mathlib.Core.Path.{◌≡◌, refl, sym, ◌∙◌}
use mathlib.Core.Bool.{Bool, true, false, ◌&&◌, ◌||◌, true≢false}
use mathlib.Core.Logic.{◌⊎◌, inl, inr}
use Prim.Native.Nat.{ℕ, ◌≤◌, ◌<◌}
use native.Mathlib.Omega.{arith}
use lib.Dec.{eqb, ltb}
use borrow.Author.Tests.{eq-eqb, ne_eqb, lt-ltb, le-ltb, eqb-true, ltb-true}
use Rattle.modes.specs.declared.Term.{Term}
use Rattle.modes.proofs.Bools.{and_l, and_r}
use Rattle.modes.proofs.Digits.{lt_or_ge}
use Rattle.record.specs.Terms.{before}
use Rattle.modes.specs.Terms.{annihilations}
use Rattle.record.proofs.Order.{Compared, less, same, greater, compare, before_trans, before_one_way}
use Rattle.compare.specs.Comparison.{ahead}

pub data Ahead (t u : Term) : Type 0 where
  fewer : annihilations t < annihilations u → Ahead t u
  level : annihilations t ≡ annihilations u → before t u ≡ true → Ahead t u

how_ahead : (t u : Term) → ahead t u ≡ true → Ahead t u
unfolding ahead
how_ahead t u e = go (ltb (annihilations t) (annihilations u)) refl e
  where
    go : (b : Bool) → ltb (annihilations t) (annihilations u) ≡ b → b || (eqb (annihilations t) (annihilations u) && before t u) ≡ true → Ahead t u
    go true q h = fewer (ltb-true _ _ q)
    go false q h =
        level (eqb-true _ _ (and_l (eqb (annihilations t) (annihilations u)) (before t u) h)) (and_r (eqb (annihilations t) (annihilations u)) (before t u) h)

pub is_ahead : (t u : Term) → Ahead t u → ahead t u ≡ true
unfolding ahead
is_ahead t u (fewer h) = rw (lt-ltb _ _ h)
is_ahead t u (level e h) = rw (le-ltb (annihilations t) (annihilations u) (omega arith), eq-eqb _ _ e, h)

-- what the code tests: the counts x and y of annihilations, then the order of terms
module _ (t u : Term) (x y : ℕ) (p : x ≡ annihilations t) (q : y ≡ annihilations u) where
  pub by_count : (x ≡ y → ⊥) → ltb x y ≡ ahead t u
  unfolding ahead
  by_count n = rw (← p, ← q, ne_eqb x y n) (go (ltb x y))
    where
      go : (b : Bool) → b ≡ b || false
      go true = refl
      go false = refl

  pub by_words : x ≡ y → before t u ≡ ahead t u
  unfolding ahead
  by_words e = rw (← p, ← q, le-ltb x y (omega arith), eq-eqb x y e)

ahead_trans : (t u v : Term) → ahead t u ≡ true → ahead u v ≡ true → ahead t v ≡ true
ahead_trans t u v e f = is_ahead t v (go (how_ahead t u e) (how_ahead u v f))
  where
    go : Ahead t u → Ahead u v → Ahead t v
    go (fewer h) (fewer k) = fewer (omega arith)
    go (fewer h) (level p k) = fewer (omega arith)
    go (level p h) (fewer k) = fewer (omega arith)
    go (level p h) (level q k) = level (p ∙ q) (before_trans t u v h k)

pub not_itself : (t : Term) → ahead t t ≡ false
not_itself t = go (ahead t t) refl
  where
    never : Ahead t t → ⊥
    never (fewer h) = omega arith
    never (level p h) = before_one_way t t h h

    go : (b : Bool) → ahead t t ≡ b → b ≡ false
    go true q = absurd (never (how_ahead t t q))
    go false q = refl

-- only the words of a term count
pub ahead_words : (t u v : Term) → t.ann ≡ u.ann → t.cre ≡ u.cre → ahead t v ≡ ahead u v
unfolding ahead before
ahead_words t u v p q = rw (p, q)

pub data Placed (t u : Term) : Type 0 where
  first : ahead t u ≡ true → Placed t u
  alike : t.ann ≡ u.ann → t.cre ≡ u.cre → Placed t u
  second : ahead u t ≡ true → Placed t u

pub placed : (t u : Term) → Placed t u
placed t u = go (lt_or_ge (annihilations t) (annihilations u)) (lt_or_ge (annihilations u) (annihilations t)) (compare t u)
  where
    go : (annihilations t < annihilations u) ⊎ (annihilations u ≤ annihilations t) → (annihilations u < annihilations t) ⊎ (annihilations t ≤ annihilations u)
        → Compared t u → Placed t u
    go (inl h) k c = first (is_ahead t u (fewer h))
    go (inr h) (inl k) c = second (is_ahead u t (fewer k))
    go (inr h) (inr k) (less c) = first (is_ahead t u (level (omega arith) c))
    go (inr h) (inr k) (same p q) = alike p q
    go (inr h) (inr k) (greater c) = second (is_ahead u t (level (omega arith) c))

-- what stands behind one that is not ahead of v is not ahead of v
pub behind : (t u v : Term) → ahead u t ≡ true → ahead u v ≡ false → ahead t v ≡ false
behind t u v e f = go (ahead t v) refl
  where
    go : (b : Bool) → ahead t v ≡ b → b ≡ false
    go true q = absurd (true≢false (sym (ahead_trans u t v e q) ∙ f))
    go false q = refl

pub not_ahead : (t u v : Term) → ahead t u ≡ false → ahead u v ≡ false → ahead t v ≡ false
not_ahead t u v e f = go (placed t u)
  where
    go : Placed t u → ahead t v ≡ false
    go (first h) = absurd (true≢false (sym h ∙ e))
    go (alike p q) = ahead_words t u v p q ∙ f
    go (second h) = behind t u v h f
