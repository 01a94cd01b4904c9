-- The normal form of a list of terms ascends and has no zeros, and is the only such list with its coefficients.
use mathlib.Core.Path.{◌≡◌, refl, sym, ap, ◌∙◌}
use mathlib.Core.Bool.{Bool, true, false, cond, true≢false}
use mathlib.Core.List.{List, [], ◌∷◌}
use Prim.Native.Nat.{ℕ}
use lib.Dec.{eqb}
use lib.IntN.{nat_abs}
use borrow.Author.Tests.{eqb-false}
use Rattle.modes.specs.declared.Term.{Term}
use Rattle.modes.specs.Every.{Every, none, more}
use Rattle.record.specs.Terms.{before, Above, Ascending, empty, above}
use Rattle.record.specs.Coefficients.{coeff_of}
use Rattle.record.specs.Canonical.{Inside, Nonzero}
use Rattle.record.proofs.Order.{Compared, less, same, greater, compare, above_trans}
use Rattle.record.proofs.Coefficients.{same_terms}
use Rattle.normal.specs.Normal.{alike, join, insert, collect, drop_zeros, normal}
use Rattle.normal.proofs.Totals.{alike_words, coeff_normal}

-- ---- what holds of every term

every_drop : {P : Term → Type 0} (ts : List Term) → Every P ts → Every P (drop_zeros ts)
unfolding drop_zeros
every_drop [] none = none
every_drop {P} (t ∷ ts) (more p ps) = go (every_drop ts ps) (eqb (nat_abs t.coeff) 0)
  where
    go : Every P (drop_zeros ts) → (b : Bool) → Every P (cond b (drop_zeros ts) (t ∷ drop_zeros ts))
    go h true = h
    go h false = more p h

-- of what joining keeps
abbrev pub Joins : (Term → Type 0) → Type 0
Joins P = (t u : Term) → P t → P u → P (join t u)

every_insert : {P : Term → Type 0} → Joins P → (t : Term) (ts : List Term) → P t → Every P ts → Every P (insert t ts)
unfolding insert
every_insert j t [] p none = more p none
every_insert {P} j t (u ∷ ts) p (more q qs) = go (every_insert j t ts p qs) (alike t u) (before t u)
  where
    go : Every P (insert t ts) → (a b : Bool) → Every P (cond a (join t u ∷ ts) (cond b (t ∷ u ∷ ts) (u ∷ insert t ts)))
    go h true b = more (j t u p q) qs
    go h false true = more p (more q qs)
    go h false false = more q h

every_collect : {P : Term → Type 0} → Joins P → (ts : List Term) → Every P ts → Every P (collect ts)
unfolding collect
every_collect j [] none = none
every_collect j (t ∷ ts) (more p ps) = every_insert j t (collect ts) p (every_collect j ts ps)

pub every_normal : {P : Term → Type 0} → Joins P → (ts : List Term) → Every P ts → Every P (normal ts)
every_normal j ts h = every_drop (collect ts) (every_collect j ts h)

-- a joined term has the words of the two
pub above_joins : (t : Term) → Joins (λ u. before t u ≡ true)
unfolding join before
above_joins t u v p q = q

pub inside_joins : (m : ℕ) (t u : Term) → Inside m t → Inside m u → Inside m (join t u)
unfolding join
inside_joins m t u h k = record { ann = k.ann; cre = k.cre }

-- ---- order

ascending_insert : (t : Term) (ts : List Term) → Ascending ts → Ascending (insert t ts)
unfolding insert join before
ascending_insert t [] empty = above none empty
ascending_insert t (u ∷ ts) (above a s) = go (ascending_insert t ts s) (alike t u) (before t u) refl refl
  where
    go : Ascending (insert t ts) → (x y : Bool) → alike t u ≡ x → before t u ≡ y → Ascending (cond x (join t u ∷ ts) (cond y (t ∷ u ∷ ts) (u ∷ insert t ts)))
    go h true y e f = above a s
    go h false true e f = above (more f (above_trans t u ts f a)) (above a s)
    go h false false e f = above (every_insert (above_joins u) t ts (after (compare t u)) a) h
      where
        after : Compared t u → before u t ≡ true
        after (less q) = absurd (true≢false (sym q ∙ f))
        after (same p q) = absurd (true≢false (sym (alike_words t u p q) ∙ e))
        after (greater q) = q

ascending_collect : (ts : List Term) → Ascending (collect ts)
unfolding collect
ascending_collect [] = empty
ascending_collect (t ∷ ts) = ascending_insert t (collect ts) (ascending_collect ts)

pub ascending_drop : (ts : List Term) → Ascending ts → Ascending (drop_zeros ts)
unfolding drop_zeros
ascending_drop [] empty = empty
ascending_drop (t ∷ ts) (above a s) = go (every_drop ts a) (ascending_drop ts s) (eqb (nat_abs t.coeff) 0)
  where
    go : Above t (drop_zeros ts) → Ascending (drop_zeros ts) → (b : Bool) → Ascending (cond b (drop_zeros ts) (t ∷ drop_zeros ts))
    go h k true = k
    go h k false = above h k

pub nonzero_drop : (ts : List Term) → Every Nonzero (drop_zeros ts)
unfolding drop_zeros
nonzero_drop [] = none
nonzero_drop (t ∷ ts) = go (nonzero_drop ts) (eqb (nat_abs t.coeff) 0) refl
  where
    go : Every Nonzero (drop_zeros ts) → (b : Bool) → eqb (nat_abs t.coeff) 0 ≡ b → Every Nonzero (cond b (drop_zeros ts) (t ∷ drop_zeros ts))
    go h true e = h
    go h false e = more (λ z. eqb-false _ _ e (ap nat_abs z)) h

-- ---- the normal form

pub normal_ascending : (ts : List Term) → Ascending (normal ts)
normal_ascending ts = ascending_drop (collect ts) (ascending_collect ts)

pub normal_nonzero : (ts : List Term) → Every Nonzero (normal ts)
normal_nonzero ts = nonzero_drop (collect ts)

-- the only ascending list without zeros that has the coefficients of ts
pub normal_is : (us ts : List Term) → Ascending us → Every Nonzero us → ((c a : ℕ) → coeff_of c a us ≡ coeff_of c a ts) → us ≡ normal ts
normal_is us ts s n e =
    same_terms us (normal ts) s (normal_ascending ts) n (normal_nonzero ts) (λ c a. e c a ∙ sym (coeff_normal c a ts))

-- lists with the same coefficients have one normal form
pub normal_same : (ts us : List Term) → ((c a : ℕ) → coeff_of c a ts ≡ coeff_of c a us) → normal ts ≡ normal us
normal_same ts us e = normal_is (normal ts) us (normal_ascending ts) (normal_nonzero ts) (λ c a. coeff_normal c a ts ∙ e c a)
