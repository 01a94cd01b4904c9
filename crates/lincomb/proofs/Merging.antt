-- Two ascending lists merged: their order, and their normal form.
use mathlib.Core.Path.{◌≡◌, refl, sym, ◌∙◌}
use mathlib.Core.Bool.{Bool, true, false, cond, true≢false}
use mathlib.Core.List.{List, [], ◌∷◌, ◌++◌, map}
use Rattle.modes.specs.declared.Term.{Term}
use Rattle.modes.proofs.Sums.{sum_append}
use Rattle.modes.specs.Every.{Every, none, more}
use Rattle.modes.proofs.Every.{every_map}
use Rattle.record.specs.Terms.{before, Above, Ascending, empty, above}
use Rattle.record.proofs.Order.{Compared, less, same, greater, compare, above_trans}
use Rattle.record.specs.Coefficients.{coeff_in}
use Rattle.normal.specs.Normal.{join, drop_zeros, normal}
use Rattle.normal.proofs.Totals.{coeff_drop}
use Rattle.normal.proofs.Normal.{Joins, above_joins, ascending_drop, nonzero_drop, normal_is}
use Rattle.lincomb.specs.Sums.{turn}
use Rattle.lincomb.specs.Merging.{merge}
use Rattle.lincomb.proofs.Totals.{coeff_merge}

-- signs change no order
pub ascending_turn : (minus : Bool) (ts : List Term) → Ascending ts → Ascending (map (turn minus) ts)
unfolding before
ascending_turn minus [] empty = empty
ascending_turn minus (t ∷ ts) (above a s) = above (every_map (turn minus) ts (λ u h. h) a) (ascending_turn minus ts s)

every_merge : {P : Term → Type 0} → Joins P → (ts us : List Term) → Every P ts → Every P us → Every P (merge ts us)
unfolding merge
every_merge j [] us none h = h
every_merge j (t ∷ ts) [] h none = h
every_merge {P} j (t ∷ ts) (u ∷ us) (more p ps) (more q qs) =
    go (every_merge j ts (u ∷ us) ps (more q qs)) (every_merge j (t ∷ ts) us (more p ps) qs) (every_merge j ts us ps qs) (before t u) (before u t)
  where
    go : Every P (merge ts (u ∷ us)) → Every P (merge (t ∷ ts) us) → Every P (merge ts us) → (x y : Bool)
        → Every P (cond x (t ∷ merge ts (u ∷ us)) (cond y (u ∷ merge (t ∷ ts) us) (join t u ∷ merge ts us)))
    go a b c true y = more p a
    go a b c false true = more q b
    go a b c false false = more (j t u p q) c

-- what stands above a term stands above a term with the same words
above_same : (t u : Term) (ts : List Term) → t.ann ≡ u.ann → t.cre ≡ u.cre → Above t ts → Above (join t u) ts
unfolding before join
above_same t u [] p q none = none
above_same t u (v ∷ ts) p q (more h a) = let k : before (join t u) v ≡ true = rw (← p, ← q) h in more k (above_same t u ts p q a)

pub ascending_merge : (ts us : List Term) → Ascending ts → Ascending us → Ascending (merge ts us)
unfolding merge before join
ascending_merge [] us empty h = h
ascending_merge (t ∷ ts) [] h empty = h
ascending_merge (t ∷ ts) (u ∷ us) (above a s) (above b r) =
    go (ascending_merge ts (u ∷ us) s (above b r)) (ascending_merge (t ∷ ts) us (above a s) r) (ascending_merge ts us s r) (before t u) (before u t) refl refl
  where
    go : Ascending (merge ts (u ∷ us)) → Ascending (merge (t ∷ ts) us) → Ascending (merge ts us) → (x y : Bool) → before t u ≡ x → before u t ≡ y
        → Ascending (cond x (t ∷ merge ts (u ∷ us)) (cond y (u ∷ merge (t ∷ ts) us) (join t u ∷ merge ts us)))
    go k l m true y e f = above (every_merge (above_joins t) ts (u ∷ us) a (more e (above_trans t u us e b))) k
    go k l m false true e f = above (every_merge (above_joins u) (t ∷ ts) us (more f (above_trans u t ts f a)) b) l
    go k l m false false e f = level (compare t u)
      where
        level : Compared t u → Ascending (join t u ∷ merge ts us)
        level (less h) = absurd (true≢false (sym h ∙ e))
        level (same p q) =
            above (every_merge (above_joins (join t u)) ts us (above_same t u ts p q a) b) m
        level (greater h) = absurd (true≢false (sym h ∙ f))

-- merging is the normal form of both lists together, but for zeros
pub merge_normal : (ts us : List Term) → Ascending ts → Ascending us → drop_zeros (merge ts us) ≡ normal (ts ++ us)
merge_normal ts us s r =
    normal_is (drop_zeros (merge ts us)) (ts ++ us) (ascending_drop (merge ts us) (ascending_merge ts us s r)) (nonzero_drop (merge ts us))
    (λ c a. coeff_drop c a (merge ts us) ∙ coeff_merge c a ts us ∙ sym (sum_append (coeff_in c a) ts us))
