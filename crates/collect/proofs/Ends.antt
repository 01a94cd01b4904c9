-- Lists of terms with one term more at the end.
use mathlib.Core.Path.{◌≡◌, refl}
use mathlib.Core.Bool.{true}
use mathlib.Core.List.{List, [], ◌∷◌, ◌++◌}
use lib.IntN.{pos}
use Rattle.modes.specs.Sums.{sum_of}
use Rattle.modes.specs.declared.Term.{Term}
use Rattle.modes.specs.Every.{Every, none, more}
use Rattle.modes.proofs.Every.{every_last}
use Rattle.record.specs.Terms.{before, Ascending, empty, above}
use Rattle.record.specs.Coefficients.{coeff_of}
use Rattle.record.proofs.Order.{before_trans}
use Rattle.record.proofs.Coefficients.{earlier_words}

-- every term of ts stands before x
abbrev pub Under : Term → List Term → Type 0
Under x ts = Every (λ t. before t x ≡ true) ts

pub ascending_end : (ts : List Term) (x : Term) → Ascending ts → Under x ts → Ascending (ts ++ (x ∷ []))
ascending_end [] x empty none = above none empty
ascending_end (t ∷ ts) x (above h a) (more b u) = above (every_last ts x h b) (ascending_end ts x a u)

pub under_trans : (ts : List Term) (x y : Term) → Under x ts → before x y ≡ true → Under y ts
under_trans [] x y none b = none
under_trans (t ∷ ts) x y (more a u) b = more (before_trans t x y a b) (under_trans ts x y u b)

-- only the words decide
pub under_same : (ts : List Term) (x y : Term) → x.ann ≡ y.ann → x.cre ≡ y.cre → Under x ts → Under y ts
unfolding before
under_same [] x y p q none = none
under_same (t ∷ ts) x y p q (more b u) = more (rw (p, q) at b) (under_same ts x y p q u)

-- terms that stand before x have other words than x
pub under_none : (ts : List Term) (x : Term) → Under x ts → coeff_of x.cre x.ann ts ≡ pos 0
unfolding sum_of
under_none [] x none = refl
under_none (t ∷ ts) x (more b u) = rw (earlier_words t x b, under_none ts x u)
