-- The coefficients of a pair of terms, as the code makes them, and the rows of one pair after the other.
use mathlib.Core.Path.{◌≡◌, sym, ap, ap₂, ◌∙◌, subst}
use mathlib.Core.Bool.{Bool, true, false}
use mathlib.Core.List.{List, [], ◌++◌, append-nil, append_assoc}
use Prim.Native.Nat.{ℕ, ◌*◌, ◌^◌, ◌≤◌, ◌<◌}
use native.Mathlib.Nat.{mul-le-mul, le_refl, le_trans}
use native.Mathlib.Omega.{arith}
use lib.IntN.{ℤ, nat_abs, ◌*ℤ◌}
use lib.ListN.{length}
use mir.Syntax.{w64}
use mir.Val.{SFits, to_z, of_z}
use mir.Facts.{to_z-of_z}
use Rattle.modes.specs.declared.Term.{Term}
use Rattle.integers.proofs.SignedNumbers.{abs_fits, abs_product}
use Rattle.products.specs.Operators.{signed}
use Rattle.products.specs.Product.{rows_times}
use Rattle.products.proofs.Signs.{abs_signed}
use Rattle.record.specs.Terms.{weight}
use Rattle.record.specs.Reading.{At}
use Rattle.record.proofs.Weights.{weight_at}
use Rattle.pairs.specs.Products.{pair_rows}
use Rattle.pairs.specs.Filling.{Room, Filled, Grown, filled, Adds}
use Rattle.pairs.specs.declared.Fill.{Fill}
use Rattle.pairs.proofs.Filling.{nothing_filled, filled_as, over_more, not_over}

-- p is the product of the coefficients, from their bits
module _ (minus : Bool) (t u : Term) (ft : SFits w64 t.coeff) (fu : SFits w64 u.coeff) (small : nat_abs t.coeff * nat_abs u.coeff < 2 ^ 63)
    (p : ℤ) (ep : p ≡ to_z w64 (of_z w64 t.coeff) *ℤ to_z w64 (of_z w64 u.coeff)) where
  is : p ≡ t.coeff *ℤ u.coeff
  is = ep ∙ ap₂ ◌*ℤ◌ (to_z-of_z ft) (to_z-of_z fu)

  below : nat_abs p < 2 ^ 63
  below = rw (is, abs_product t.coeff u.coeff) small

  bits : to_z w64 (of_z w64 p) ≡ p
  bits = to_z-of_z (abs_fits p below)

  pub one_order : {l m : List ℕ} {s r : Fill} → Adds (rows_times t.cre t.ann u.cre u.ann p) l s m r → Adds (pair_rows false minus t u) l s m r
  unfolding pair_rows
  one_order {l} {m} {s} {r} g =
      subst (λ (ts : List Term). Adds ts l s m r)
      (ap (rows_times t.cre t.ann u.cre u.ann) is ∙ sym (append-nil (rows_times t.cre t.ann u.cre u.ann (t.coeff *ℤ u.coeff)))) g

  -- q is p with the sign
  module _ (q : ℤ) (eq : q ≡ signed minus (to_z w64 (of_z w64 p))) where
    swapped_is : q ≡ signed minus p
    swapped_is = eq ∙ ap (signed minus) bits

    swapped_fits : nat_abs q < 2 ^ 63
    swapped_fits = rw (swapped_is, abs_signed minus p) below

    pub both_orders : {l m : List ℕ} {s r : Fill}
        → Adds (rows_times t.cre t.ann u.cre u.ann (to_z w64 (of_z w64 p)) ++ rows_times u.cre u.ann t.cre t.ann (to_z w64 (of_z w64 q))) l s m r
        → Adds (pair_rows true minus t u) l s m r
    unfolding pair_rows
    both_orders {l} {m} {s} {r} g =
        subst (λ (ts : List Term). Adds ts l s m r)
        (ap₂ (λ (x y : ℤ). rows_times t.cre t.ann u.cre u.ann x ++ rows_times u.cre u.ann t.cre t.ann y) (bits ∙ is)
        (to_z-of_z (abs_fits q swapped_fits) ∙ swapped_is ∙ ap (signed minus) is)) g

-- ---- one pair after the other: of the rows in `whole`, those in `left` are to come

pub record Progress (whole left : List Term) (l₀ : List ℕ) (s₀ : Fill) (l : List ℕ) (s : Fill) : Type 0 where
  pub len : length l ≡ length l₀
  pub room : Room l s
  pub done : List Term
  pub all : whole ≡ done ++ left
  pub adds : (ts : List Term) → Filled ts l₀ s₀ → Filled (ts ++ done) l s

module _ (whole left : List Term) (l₀ : List ℕ) (s₀ : Fill) (l : List ℕ) (s : Fill) (g : Progress whole left l₀ s₀ l s) where
  pub progress_ends : left ≡ [] → Adds whole l₀ s₀ l s
  progress_ends e =
      let all : whole ≡ g.done = g.all ∙ ap (λ (us : List Term). g.done ++ us) e ∙ append-nil g.done in
      record { room = λ h. g.room; grows = λ ts f. filled_as (ap (λ (us : List Term). ts ++ us) (sym all)) (filled (g.adds ts f)) }

  module _ (rows rest : List Term) (split : left ≡ rows ++ rest) (m : List ℕ) (r : Fill) (len : length m ≡ length l) (step : Adds rows l s m r) where
    pub progress_goes : r.held ≤ length m → Progress whole rest l₀ s₀ m r
    progress_goes h = record {
      len = len ∙ g.len;
      room = step.room h;
      done = g.done ++ rows;
      all = g.all ∙ ap (λ (us : List Term). g.done ++ us) split ∙ sym (append_assoc g.done rows rest);
      adds =
          λ ts f. subst (λ (us : List Term). Filled us m r) (append_assoc ts g.done rows)
          (not_over ((ts ++ g.done) ++ rows) m r h (step.grows (ts ++ g.done) (g.adds ts f)));
    }

    pub progress_over : length m < r.held → Adds whole l₀ s₀ m r
    progress_over h = record {
      room = λ k. absurd (omega arith);
      grows = λ ts f.
          filled_as
          (append_assoc (ts ++ g.done) rows rest ∙ append_assoc ts g.done (rows ++ rest) ∙ ap (λ (us : List Term). ts ++ us)
          (ap (λ (us : List Term). g.done ++ us) (sym split) ∙ sym g.all))
          (over_more ((ts ++ g.done) ++ rows) rest m r h (step.grows (ts ++ g.done) (g.adds ts f)));
    }

-- nothing stood in the work before the first pair
pub from_nothing : (whole : List Term) (l m : List ℕ) (r : Fill) → Adds whole l (record { used = 0; held = 0 }) m r → Grown whole m r
from_nothing whole l m r a = a.grows [] (nothing_filled l)

-- a term's part of the two weights' product
pub one_light : (ts : List Term) (w i : ℕ) (t : Term) → At ts i t → weight ts * w ≤ 2 ^ 60 → nat_abs t.coeff * w ≤ 2 ^ 60
one_light ts w i t e h = le_trans (mul-le-mul (weight_at ts i t e) (le_refl w)) h

pub pair_light : (n : ℕ) (us : List Term) (j : ℕ) (u : Term) → At us j u → n * weight us ≤ 2 ^ 60 → n * nat_abs u.coeff < 2 ^ 63
pair_light n us j u e h = let k = le_trans (mul-le-mul (le_refl n) (weight_at us j u e)) h in omega arith
