-- The terms with fewer than n annihilations: what holds of them, and their coefficients.
use mathlib.Core.Path.{◌≡◌, refl, sym, ap, ◌∙◌}
use mathlib.Core.Bool.{Bool, true, false, cond, ◌&&◌, true≢false}
use mathlib.Core.List.{List, [], ◌∷◌}
use Prim.Native.Nat.{ℕ, suc-le-suc}
use lib.Dec.{eqb, ltb}
use lib.IntN.{ℤ, pos, ◌+ℤ◌, +ℤ_idl}
use borrow.Author.Tests.{lt-ltb, eqb-true}
use Rattle.modes.specs.Words.{bit}
use Rattle.modes.specs.Counts.{count}
use Rattle.modes.specs.Sums.{sum_of}
use Rattle.modes.specs.declared.Term.{Term}
use Rattle.modes.proofs.Counts.{count_le}
use Rattle.modes.specs.Every.{Every, none, more}
use Rattle.record.specs.Terms.{before, Ascending, empty, above}
use Rattle.modes.specs.Terms.{annihilations}
use Rattle.record.specs.Coefficients.{coeff_in, coeff_of}

-- the terms with fewer than n annihilations
unfoldable pub fewer : ℕ → List Term → List Term
fewer n [] = []
fewer n (t ∷ ts) = cond (ltb (annihilations t) n) (t ∷ fewer n ts) (fewer n ts)

pub every_fewer : (P : Term → Type 0) (n : ℕ) (ts : List Term) → Every P ts → Every P (fewer n ts)
unfolding fewer
every_fewer P n [] none = none
every_fewer P n (t ∷ ts) (more h hs) = go (every_fewer P n ts hs) (ltb (annihilations t) n)
  where
    go : Every P (fewer n ts) → (b : Bool) → Every P (cond b (t ∷ fewer n ts) (fewer n ts))
    go ih true = more h ih
    go ih false = ih

pub fewer_ascending : (n : ℕ) (ts : List Term) → Ascending ts → Ascending (fewer n ts)
unfolding fewer
fewer_ascending n [] empty = empty
fewer_ascending n (t ∷ ts) (above h s) = go (fewer_ascending n ts s) (ltb (annihilations t) n)
  where
    go : Ascending (fewer n ts) → (b : Bool) → Ascending (cond b (t ∷ fewer n ts) (fewer n ts))
    go ih true = above (every_fewer (λ u. before t u ≡ true) n ts h) ih
    go ih false = ih

-- b: the term is kept; d: its words would be; x, y: it has the words
kept : (x y b d : Bool) (z F L : ℤ) → (x ≡ true → b ≡ d) → F ≡ cond d L (pos 0)
    → cond b (cond (x && y) z (pos 0) +ℤ F) F ≡ cond d (cond (x && y) z (pos 0) +ℤ L) (pos 0)
kept true y true true z F L h e = ap (λ (w : ℤ). cond y z (pos 0) +ℤ w) e
kept true y true false z F L h e = absurd (true≢false (h refl))
kept true y false true z F L h e = absurd (true≢false (sym (h refl)))
kept true y false false z F L h e = e
kept false y true true z F L h e = ap (λ (w : ℤ). pos 0 +ℤ w) e
kept false y true false z F L h e = +ℤ_idl F ∙ e
kept false y false true z F L h e = e ∙ sym (+ℤ_idl L)
kept false y false false z F L h e = e

pub coeff_fewer : (n c a : ℕ) (ts : List Term) → coeff_of c a (fewer n ts) ≡ cond (ltb (count 64 (bit a)) n) (coeff_of c a ts) (pos 0)
unfolding fewer sum_of
coeff_fewer n c a [] = go (ltb (count 64 (bit a)) n)
  where
    go : (b : Bool) → pos 0 ≡ cond b (pos 0) (pos 0)
    go true = refl
    go false = refl
coeff_fewer n c a (t ∷ ts) =
    push (ltb (annihilations t) n)
    ∙ kept (eqb t.ann a) (eqb t.cre c) (ltb (annihilations t) n) (ltb (count 64 (bit a)) n) t.coeff (coeff_of c a (fewer n ts)) (coeff_of c a ts)
    (λ e. ap (λ (x : ℕ). ltb (count 64 (bit x)) n) (eqb-true t.ann a e)) (coeff_fewer n c a ts)
  where
    push : (b : Bool) → coeff_of c a (cond b (t ∷ fewer n ts) (fewer n ts)) ≡ cond b (coeff_in c a t +ℤ coeff_of c a (fewer n ts)) (coeff_of c a (fewer n ts))
    push true = refl
    push false = refl

pub fewer_all : (ts : List Term) → fewer 65 ts ≡ ts
unfolding fewer
fewer_all [] = refl
fewer_all (t ∷ ts) = rw (lt-ltb (annihilations t) 65 (suc-le-suc (count_le 64 (bit t.ann))), fewer_all ts)
