-- Counting as far as the ceiling tells whether the whole count is above it, and else is the count.
use mathlib.Core.Path.{◌≡◌, refl, sym, ap, ◌∙◌, subst}
use mathlib.Core.Bool.{Bool, true, false}
use Prim.Native.Nat.{ℕ, ◌+◌, ◌≤◌, ◌<◌}
use native.Mathlib.Omega.{arith}
use lib.Dec.{leb}
use borrow.Author.Tests.{le-leb, lt-leb, leb-true, leb-false}
use Rattle.branches.specs.Ceiling.{most, up_to}

pub up_exact : (n : ℕ) → n ≤ most → up_to n ≡ n
unfolding up_to
up_exact n h = rw (le-leb n most h)

pub up_over : (n : ℕ) → most < n → up_to n ≡ most + 1
unfolding up_to
up_over n h = rw (lt-leb n most h)

-- n is a count as it is, or above the ceiling
data Reach (n : ℕ) : Type 0 where
  exact : n ≤ most → up_to n ≡ n → Reach n
  over : most < n → up_to n ≡ most + 1 → Reach n

reach : (n : ℕ) → Reach n
reach n = go (leb n most) refl
  where
    go : (b : Bool) → leb n most ≡ b → Reach n
    go true e = let h = leb-true n most e in exact h (up_exact n h)
    go false e = let h = leb-false n most e in over h (up_over n h)

pub up_small : (n : ℕ) → up_to n ≤ most + 1
up_small n = go (reach n)
  where
    go : Reach n → up_to n ≤ most + 1
    go (exact h e) = omega (arith, e)
    go (over h e) = omega (arith, e)

-- two numbers are one count if the first, where it is below the ceiling, is the second, and is above it with the second only
record One (m n : ℕ) : Type 0 where
  same : m ≤ most → m ≡ n
  beyond : most < m → most < n

up_one : (m n : ℕ) → One m n → up_to m ≡ up_to n
up_one m n g = go (reach m)
  where
    go : Reach m → up_to m ≡ up_to n
    go (exact h e) = ap up_to (g.same h)
    go (over h e) = e ∙ sym (up_over n (g.beyond h))

-- k is what is counted so far, left is still to come, and total is all
pub record Counts (k left total : ℕ) : Type 0 where
  pub small : k ≤ most + 1
  pub all : up_to (k + left) ≡ up_to total

more : (k x left total : ℕ) → Counts k (x + left) total → Counts (up_to (k + up_to x)) left total
more k x left total g = record { small = up_small (k + up_to x); all = up_one _ _ (go (reach x) (reach (k + up_to x))) ∙ g.all }
  where
    go : Reach x → Reach (k + up_to x) → One (up_to (k + up_to x) + left) (k + (x + left))
    go (exact a p) (exact b q) = record { same = λ h. omega (arith, p, q); beyond = λ h. omega (arith, p, q) }
    go (exact a p) (over b q) = record { same = λ h. absurd (omega (arith, q)); beyond = λ h. omega (arith, p) }
    go (over a p) (exact b q) = absurd (omega (arith, p))
    go (over a p) (over b q) = record { same = λ h. absurd (omega (arith, q)); beyond = λ h. omega arith }

-- one turn of a loop: y is the count of the next x, and r the new count
pub counted : {k left total y r : ℕ} (x rest : ℕ) → Counts k left total → left ≡ x + rest → y ≡ up_to x → r ≡ up_to (k + y) → Counts r rest total
counted {k} {left} {total} {y} {r} x rest g next part now =
    subst (λ (n : ℕ). Counts n rest total) (sym (now ∙ ap (λ (n : ℕ). up_to (k + n)) part)) (more k x rest total (subst (λ (n : ℕ). Counts k n total) next g))

-- nothing is left
pub all_counted : {k left total : ℕ} → Counts k left total → left ≡ 0 → k ≡ up_to total
all_counted {k} {left} {total} g none = go (reach (k + left)) g.all
  where
    go : Reach (k + left) → up_to (k + left) ≡ up_to total → k ≡ up_to total
    go (exact h e) q = omega (arith, e, q)
    go (over h e) q = omega (arith, e, q, g.small)

-- ---- two counts, added

module _ (m n : ℕ) where
  pub sum_over : most < up_to m + up_to n → most < m + n
  sum_over h = go (reach m) (reach n)
    where
      go : Reach m → Reach n → most < m + n
      go (exact a p) (exact b q) = omega (arith, p, q)
      go (exact a p) (over b q) = omega arith
      go (over a p) y = omega arith

  pub sum_exact : up_to m + up_to n ≤ most → (up_to m ≡ m) × (up_to n ≡ n)
  sum_exact h = go (reach m) (reach n)
    where
      go : Reach m → Reach n → (up_to m ≡ m) × (up_to n ≡ n)
      go (exact a p) (exact b q) = (p, q)
      go (exact a p) (over b q) = absurd (omega (arith, q))
      go (over a p) y = absurd (omega (arith, p))
