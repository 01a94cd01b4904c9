-- Rows read one by one, in order: those that are done, the one in hand, and what both make of the rows read.
use mathlib.Core.Path.{◌≡◌, refl, sym, ap, ◌∙◌, subst}
use mathlib.Core.Bool.{true}
use mathlib.Core.List.{List, [], ◌∷◌, ◌++◌}
use Prim.Native.Nat.{ℕ, ◌+◌, ◌≤◌}
use native.Mathlib.Omega.{arith}
use lib.IntN.{ℤ, nat_abs, ◌+ℤ◌, +ℤ_idl, +ℤ_idr, +ℤ_assoc}
use borrow.Author.Tests.{eq-eqb}
use mir.Syntax.{w64}
use mir.Val.{SFits}
use Rattle.record.proofs.Order.{Compared, less, same, greater, before_key, compare}
use Rattle.modes.specs.Sums.{sum_of}
use Rattle.modes.specs.declared.Term.{Term}
use Rattle.modes.proofs.Sums.{sum_last}
use Rattle.modes.specs.Every.{Every, none}
use Rattle.modes.proofs.Every.{every_last}
use Rattle.lent.specs.Rows.{Fit}
use Rattle.places.specs.Order.{key}
use Rattle.products.specs.Product.{Other}
use Rattle.record.specs.Terms.{before, Ascending, empty}
use Rattle.record.specs.Canonical.{Nonzero}
use Rattle.record.specs.Coefficients.{coeff_in, coeff_of}
use Rattle.normal.specs.Normal.{join}
use Rattle.normal.proofs.Totals.{alike_words, coeff_additive}
use Rattle.collect.specs.KeyWeights.{key_weight}
use Rattle.collect.specs.Steps.{Ended, dropped, stored}
use Rattle.collect.proofs.Ends.{Under, ascending_end, under_trans, under_same, under_none}
use Rattle.collect.proofs.KeyWeights.{coeff_below, weight_end}

-- the rows ts are done, and are what the rows us make together
pub record Done (ts us : List Term) : Type 0 where
  pub ascending : Ascending ts
  pub nonzero : Every Nonzero ts
  pub fit : Every Fit ts
  pub coeff : (c a : ℕ) → coeff_of c a ts ≡ coeff_of c a us

-- the rows ts are done and x is in hand, and with it they are what the rows us make together
pub record InHand (ts : List Term) (x : Term) (us : List Term) : Type 0 where
  pub ascending : Ascending ts
  pub under : Under x ts
  pub nonzero : Every Nonzero ts
  pub fit : Every Fit ts
  pub own : Fit x
  pub coeff : (c a : ℕ) → coeff_of c a ts +ℤ coeff_in c a x ≡ coeff_of c a us

own_words : (t x : Term) → t.ann ≡ x.ann → t.cre ≡ x.cre → coeff_in x.cre x.ann t ≡ t.coeff
own_words t x p q = rw (eq-eqb t.ann x.ann p, eq-eqb t.cre x.cre q)

pub first_in_hand : (x : Term) → Fit x → InHand [] x (x ∷ [])
unfolding sum_of
first_in_hand x f = record {
  ascending = empty;
  under = none;
  nonzero = none;
  fit = none;
  own = f;
  coeff = λ c a. +ℤ_idl (coeff_in c a x) ∙ sym (+ℤ_idr (coeff_in c a x));
}

-- a row of other words that is not below x is above it
pub comes_after : (x y : Term) → Fit x → Fit y → Other y x → key x ≤ key y → before x y ≡ true
comes_after x y f g n h = go (compare x y)
  where
    go : Compared x y → before x y ≡ true
    go (less k) = k
    go (same p q) = absurd (n (sym q) (sym p))
    go (greater k) = absurd (omega (arith, before_key y x g k))

module _ (ts us : List Term) (x : Term) (s : InHand ts x us) where
  pub closed_done : (vs : List Term) → Ended ts x vs → Done vs us
  closed_done vs (dropped z e) = subst (λ (w : List Term). Done w us) (sym e) record {
    ascending = s.ascending;
    nonzero = s.nonzero;
    fit = s.fit;
    coeff = λ c a. sym (+ℤ_idr (coeff_of c a ts)) ∙ ap (λ (w : ℤ). coeff_of c a ts +ℤ w) (sym ((coeff_additive c a).none x (ap nat_abs z))) ∙ s.coeff c a;
  }
  closed_done vs (stored z e) = subst (λ (w : List Term). Done w us) (sym e) record {
    ascending = ascending_end ts x s.ascending s.under;
    nonzero = every_last ts x s.nonzero z;
    fit = every_last ts x s.fit s.own;
    coeff = λ c a. sum_last (coeff_in c a) ts x ∙ s.coeff c a;
  }

  closed_under : (vs : List Term) (y : Term) → Ended ts x vs → before x y ≡ true → Under y vs
  closed_under vs y (dropped z e) b = subst (Under y) (sym e) (under_trans ts x y s.under b)
  closed_under vs y (stored z e) b = subst (Under y) (sym e) (every_last ts x (under_trans ts x y s.under b) b)

  -- the next row has other words
  pub next_in_hand : (vs : List Term) (y : Term) → Ended ts x vs → before x y ≡ true → Fit y → InHand vs y (us ++ (y ∷ []))
  next_in_hand vs y e b f = let d = closed_done vs e in record {
    ascending = d.ascending;
    under = closed_under vs y e b;
    nonzero = d.nonzero;
    fit = d.fit;
    own = f;
    coeff = λ c a. ap (λ (z : ℤ). z +ℤ coeff_in c a y) (d.coeff c a) ∙ sym (sum_last (coeff_in c a) us y);
  }

  -- the next row has the same words
  pub joined_in_hand : (y : Term) → y.ann ≡ x.ann → y.cre ≡ x.cre → SFits w64 (x.coeff +ℤ y.coeff) → InHand ts (join x y) (us ++ (y ∷ []))
  unfolding join
  joined_in_hand y p q f = record {
    ascending = s.ascending;
    under = under_same ts x (join x y) (sym p) (sym q) s.under;
    nonzero = s.nonzero;
    fit = s.fit;
    own = record { ann = rw p s.own.ann; cre = rw q s.own.cre; coeff = f };
    coeff = λ c a. ap (λ (z : ℤ). coeff_of c a ts +ℤ z) ((coeff_additive c a).like x y (alike_words x y (sym p) (sym q)))
        ∙ sym (+ℤ_assoc (coeff_of c a ts) (coeff_in c a x) (coeff_in c a y))
        ∙ ap (λ (z : ℤ). z +ℤ coeff_in c a y) (s.coeff c a) ∙ sym (sum_last (coeff_in c a) us y);
  }

  -- the row in hand is the whole coefficient of its words
  hand_coeff : x.coeff ≡ coeff_of x.cre x.ann us
  hand_coeff =
      sym (own_words x x refl refl) ∙ sym (+ℤ_idl (coeff_in x.cre x.ann x))
      ∙ ap (λ (z : ℤ). z +ℤ coeff_in x.cre x.ann x) (sym (under_none ts x s.under)) ∙ s.coeff x.cre x.ann

  pub both_weigh : (y : Term) → y.ann ≡ x.ann → y.cre ≡ x.cre → nat_abs x.coeff + nat_abs y.coeff ≤ key_weight x.cre x.ann (us ++ (y ∷ []))
  both_weigh y p q =
      let a : nat_abs x.coeff ≡ nat_abs (coeff_of x.cre x.ann us) = ap nat_abs hand_coeff in
      let b : nat_abs (coeff_in x.cre x.ann y) ≡ nat_abs y.coeff = ap nat_abs (own_words y x p q) in
      omega (arith, coeff_below x.cre x.ann us, weight_end x.cre x.ann us y)
