-- Like terms joined, zeros dropped, in ascending order: what a list of terms becomes in a record.
use Rattle.std.specs.Prelude.{Bool, cond, ◌&&◌, List, [], ◌∷◌, eqb, nat_abs, ◌+ℤ◌}
use Rattle.modes.specs.declared.Term.{Term}
use Rattle.record.specs.Terms.{before}

-- terms with the same words
abbrev pub alike : Term → Term → Bool
alike t u = eqb t.ann u.ann && eqb t.cre u.cre

-- two of them in one
unfoldable pub join : Term → Term → Term
join t u = record { cre = u.cre; ann = u.ann; coeff = t.coeff +ℤ u.coeff }

-- t added to an ascending list: joined with the term like it, or put in its place
unfoldable pub insert : Term → List Term → List Term
insert t [] = t ∷ []
insert t (u ∷ ts) = let later = u ∷ insert t ts in cond (alike t u) (join t u ∷ ts) (cond (before t u) (t ∷ u ∷ ts) later)

unfoldable pub collect : List Term → List Term
collect [] = []
collect (t ∷ ts) = insert t (collect ts)

-- the terms whose coefficient is not zero
unfoldable pub drop_zeros : List Term → List Term
drop_zeros [] = []
drop_zeros (t ∷ ts) = let kept = drop_zeros ts in cond (eqb (nat_abs t.coeff) 0) kept (t ∷ kept)

abbrev pub normal : List Term → List Term
normal ts = drop_zeros (collect ts)
