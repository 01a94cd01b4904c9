-- Lists in another order: sums by an operation whose operands may be taken in any order, and what is chosen of them.
use mathlib.Core.Path.{◌≡◌, refl, sym, ap, ◌∙◌}
use mathlib.Core.Bool.{Bool, true, false, cond}
use mathlib.Core.List.{List, [], ◌∷◌, ◌++◌, append-nil}
use Prim.Native.Nat.{suc, max}
use native.Mathlib.Omega.{arith}
use lib.ListN.{length}
use Rattle.modes.specs.Sums.{sum_by}
use Rattle.modes.proofs.Sums.{Adding}
use Rattle.tally.specs.Ranks.{chosen}
use Rattle.report.specs.Batches.{Reordered, nothing, after, swapped, both}

pub largest_of : Adding max 0
largest_of = record { assoc = λ x y z. omega arith; comm = λ x y. omega arith; unit = λ x. omega arith }

pub same_order : {A : Type 0} (l : List A) → Reordered l l
same_order [] = nothing
same_order (x ∷ l) = after (same_order l)

pub same_number : {A : Type 0} {l m : List A} → Reordered l m → length l ≡ length m
same_number nothing = refl
same_number (after r) = ap suc (same_number r)
same_number swapped = refl
same_number (both r s) = same_number r ∙ same_number s

-- a sum does not depend on the order
pub same_sum : {A B : Type 0} {op : B → B → B} {e : B} → Adding op e → (f : A → B) {l m : List A} → Reordered l m → sum_by op e f l ≡ sum_by op e f m
unfolding sum_by
same_sum s f nothing = refl
same_sum {op = op} s f (after {x} r) = ap (op (f x)) (same_sum s f r)
same_sum {op = op} {e = e} s f (swapped {x} {y} {l}) =
    let rest = sum_by op e f l in
    sym (s.assoc (f x) (f y) rest) ∙ ap (λ z. op z rest) (s.comm (f x) (f y)) ∙ s.assoc (f y) (f x) rest
same_sum s f (both q r) = same_sum s f q ∙ same_sum s f r

-- what is chosen is reordered with the list
module _ {A : Type 0} (p : A → Bool) where
  still_after : (b : Bool) (x : A) {l m : List A} → Reordered l m → Reordered (cond b (x ∷ l) l) (cond b (x ∷ m) m)
  still_after true x r = after r
  still_after false x r = r

  exchanged : (b c : Bool) (x y : A) (l : List A) → Reordered (cond b (x ∷ cond c (y ∷ l) l) (cond c (y ∷ l) l)) (cond c (y ∷ cond b (x ∷ l) l) (cond b (x ∷ l) l))
  exchanged true true x y l = swapped
  exchanged true false x y l = same_order (x ∷ l)
  exchanged false true x y l = same_order (y ∷ l)
  exchanged false false x y l = same_order l

  pub chosen_too : {l m : List A} → Reordered l m → Reordered (chosen p l) (chosen p m)
  unfolding chosen
  chosen_too nothing = nothing
  chosen_too (after {x} r) = still_after (p x) x (chosen_too r)
  chosen_too (swapped {x} {y} {l}) = exchanged (p x) (p y) x y (chosen p l)
  chosen_too (both q r) = both (chosen_too q) (chosen_too r)

-- ---- each entry in front of those before it

unfoldable pub onto : {A : Type 0} → List A → List A → List A
onto [] l = l
onto (x ∷ m) l = onto m (x ∷ l)

to_front : {A : Type 0} (m : List A) (x : A) (l : List A) → Reordered (m ++ (x ∷ l)) (x ∷ (m ++ l))
to_front [] x l = same_order (x ∷ l)
to_front (y ∷ m) x l = both (after (to_front m x l)) swapped

onto_front : {A : Type 0} (m l : List A) → Reordered (onto m l) (m ++ l)
unfolding onto
onto_front [] l = same_order l
onto_front (x ∷ m) l = both (onto_front m (x ∷ l)) (to_front m x l)

pub onto_nothing : {A : Type 0} (m : List A) → Reordered (onto m []) m
onto_nothing m = rw (append-nil m) at (onto_front m [])
