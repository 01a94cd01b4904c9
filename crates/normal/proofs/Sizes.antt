-- How many terms stay where zeros are dropped and like terms joined, and their weight: no more than there were; a list in order that loses none ascends.
use mathlib.Core.Path.{◌≡◌, refl, sym, ◌∙◌}
use mathlib.Core.Bool.{Bool, true, false, cond, true≢false}
use mathlib.Core.List.{List, [], ◌∷◌}
use Prim.Native.Nat.{ℕ, suc, ◌+◌, ◌≤◌}
use native.Mathlib.Omega.{arith}
use lib.Dec.{eqb}
use lib.IntN.{nat_abs}
use lib.ListN.{length}
use borrow.Author.Tests.{eqb-true, eq-eqb, ne_eqb}
use Rattle.modes.specs.declared.Term.{Term}
use Rattle.integers.proofs.SignedNumbers.{abs_sum}
use Rattle.record.specs.Terms.{before, weight, Ascending, empty, above}
use Rattle.modes.specs.Every.{none, more}
use Rattle.record.proofs.Order.{above_trans}
use Rattle.normal.specs.Normal.{alike, join, insert, collect, drop_zeros, normal}
use Rattle.normal.proofs.Totals.{alike_where_level}

-- ---- zeros dropped

pub drop_keeps : (t : Term) (ts : List Term) → (nat_abs t.coeff ≡ 0 → ⊥) → drop_zeros (t ∷ ts) ≡ t ∷ drop_zeros ts
unfolding drop_zeros
drop_keeps t ts h = rw (ne_eqb _ _ h)

pub drop_leaves : (t : Term) (ts : List Term) → nat_abs t.coeff ≡ 0 → drop_zeros (t ∷ ts) ≡ drop_zeros ts
unfolding drop_zeros
drop_leaves t ts h = rw (eq-eqb _ _ h)

pub drop_length : (t : Term) (ts : List Term) → length (drop_zeros (t ∷ ts)) ≡ cond (eqb (nat_abs t.coeff) 0) 0 1 + length (drop_zeros ts)
unfolding drop_zeros
drop_length t ts = go (eqb (nat_abs t.coeff) 0)
  where
    go : (b : Bool) → length (cond b (drop_zeros ts) (t ∷ drop_zeros ts)) ≡ cond b 0 1 + length (drop_zeros ts)
    go true = omega arith
    go false = omega arith

-- a term of size 0 weighs nothing
pub drop_weight : (ts : List Term) → weight (drop_zeros ts) ≡ weight ts
unfolding drop_zeros weight
drop_weight [] = refl
drop_weight (t ∷ ts) = go (drop_weight ts) (eqb (nat_abs t.coeff) 0) refl
  where
    go : weight (drop_zeros ts) ≡ weight ts → (b : Bool) → eqb (nat_abs t.coeff) 0 ≡ b
        → weight (cond b (drop_zeros ts) (t ∷ drop_zeros ts)) ≡ nat_abs t.coeff + weight ts
    go ih true e = let z : nat_abs t.coeff ≡ 0 = eqb-true _ _ e in omega arith
    go ih false e = omega arith

pub drop_none : (ts : List Term) → ts ≡ [] → drop_zeros ts ≡ []
unfolding drop_zeros
drop_none ts e = rw e

-- ---- like terms joined

-- a total of what each term counts, where two terms joined count no more than both
module _ (g : Term → ℕ) (total : List Term → ℕ) (cons : (t : Term) (ts : List Term) → total (t ∷ ts) ≡ g t + total ts)
    (joins : (t u : Term) → g (join t u) ≤ g t + g u) where
  insert_most : (t : Term) (ts : List Term) → total (insert t ts) ≤ g t + total ts
  unfolding insert
  insert_most t [] = omega (arith, cons t [])
  insert_most t (u ∷ ts) = go (insert_most t ts) (alike t u) (before t u)
    where
      go : total (insert t ts) ≤ g t + total ts → (a b : Bool) → total (cond a (join t u ∷ ts) (cond b (t ∷ u ∷ ts) (u ∷ insert t ts))) ≤ g t + total (u ∷ ts)
      go ih true b = omega (arith, cons (join t u) ts, cons u ts, joins t u)
      go ih false true = omega (arith, cons t (u ∷ ts))
      go ih false false = omega (arith, cons u (insert t ts), cons u ts)

  collect_most : (ts : List Term) → total (collect ts) ≤ total ts
  unfolding collect
  collect_most [] = omega arith
  collect_most (t ∷ ts) = omega (arith, insert_most t (collect ts), collect_most ts, cons t ts)

  drop_most : (ts : List Term) → total (drop_zeros ts) ≤ total ts
  unfolding drop_zeros
  drop_most [] = omega arith
  drop_most (t ∷ ts) = go (drop_most ts) (eqb (nat_abs t.coeff) 0)
    where
      go : total (drop_zeros ts) ≤ total ts → (b : Bool) → total (cond b (drop_zeros ts) (t ∷ drop_zeros ts)) ≤ total (t ∷ ts)
      go ih true = omega (arith, cons t ts)
      go ih false = omega (arith, cons t ts, cons t (drop_zeros ts))

length_insert : (t : Term) (ts : List Term) → length (insert t ts) ≤ 1 + length ts
length_insert = insert_most (λ _. 1) length (λ t ts. omega arith) (λ t u. omega arith)

length_collect : (ts : List Term) → length (collect ts) ≤ length ts
length_collect = collect_most (λ _. 1) length (λ t ts. omega arith) (λ t u. omega arith)

length_drop : (ts : List Term) → length (drop_zeros ts) ≤ length ts
length_drop = drop_most (λ _. 1) length (λ t ts. omega arith) (λ t u. omega arith)

pub length_normal : (ts : List Term) → length (normal ts) ≤ length ts
length_normal ts = omega (arith, length_drop (collect ts), length_collect ts)

pub weight_normal : (ts : List Term) → weight (normal ts) ≤ weight ts
unfolding weight join
weight_normal ts =
    rw (drop_weight (collect ts)) (collect_most (λ t. nat_abs t.coeff) weight (λ t ts. refl) (λ t u. abs_sum t.coeff u.coeff) ts)

-- ---- terms in order, of which none is joined to another

-- no term stands before the one that it follows
pub data Rises : List Term → Type 0 where
  nothing : Rises []
  single : {t : Term} → Rises (t ∷ [])
  onto : {t u : Term} {ts : List Term} → before u t ≡ false → Rises (u ∷ ts) → Rises (t ∷ u ∷ ts)

not_joined : (t u : Term) (ts cs : List Term) → before u t ≡ false → Ascending (u ∷ ts) → cs ≡ u ∷ ts → length (insert t cs) ≡ suc (suc (length ts))
    → Ascending (t ∷ u ∷ ts) × (insert t cs ≡ t ∷ u ∷ ts)
unfolding insert
not_joined t u ts cs h (above a s) e l = rw e (go (alike t u) (before t u) refl refl (rw e at l))
  where
    go : (x y : Bool) → alike t u ≡ x → before t u ≡ y → length (cond x (join t u ∷ ts) (cond y (t ∷ u ∷ ts) (u ∷ insert t ts))) ≡ suc (suc (length ts))
        → Ascending (t ∷ u ∷ ts) × (cond x (join t u ∷ ts) (cond y (t ∷ u ∷ ts) (u ∷ insert t ts)) ≡ t ∷ u ∷ ts)
    go true y p q k = absurd (omega arith)
    go false true p q k = (above (more q (above_trans t u ts q a)) (above a s), refl)
    go false false p q k = absurd (true≢false (sym (alike_where_level t u q h) ∙ p))

none_joined : (ts : List Term) → Rises ts → length (collect ts) ≡ length ts → Ascending ts × (collect ts ≡ ts)
unfolding collect insert
none_joined [] nothing e = (empty, refl)
none_joined (t ∷ []) single e = (above none empty, refl)
none_joined (t ∷ u ∷ ts) (onto h r) e =
    let rest = none_joined (u ∷ ts) r (omega (arith, length_insert t (collect (u ∷ ts)), length_collect (u ∷ ts))) in
    not_joined t u ts (collect (u ∷ ts)) h rest.0 rest.1 e

-- a list in order that its normal form is no shorter than ascends
pub rises_ascending : (ts : List Term) → Rises ts → length ts ≤ length (normal ts) → Ascending ts
rises_ascending ts r h = (none_joined ts r (omega (arith, length_drop (collect ts), length_collect ts))).0
