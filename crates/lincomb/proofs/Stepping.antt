-- Each case of a step through two records in step: the next term, and where each record goes on.
use mathlib.Core.Path.{◌≡◌, refl, sym, ap, ap₂, ◌∙◌}
use mathlib.Core.Bool.{Bool, true, false, cond}
use mathlib.Core.List.{List, [], ◌∷◌, map}
use Prim.Native.Nat.{ℕ, ◌+◌, ◌^◌, ◌≤◌, ◌<◌}
use native.Mathlib.Nat.{add-zero}
use native.Mathlib.Omega.{arith}
use lib.IntN.{nat_abs}
use lib.ListN.{length, drop, drop_of_length-le}
use Rattle.modes.specs.declared.Term.{Term}
use Rattle.record.specs.Terms.{before, weight}
use Rattle.record.specs.Reading.{At}
use Rattle.record.proofs.Order.{before_one_way}
use Rattle.products.proofs.Signs.{abs_signed}
use Rattle.record.proofs.Weights.{weight_at}
use Rattle.normal.specs.Normal.{join}
use Rattle.lincomb.specs.Sums.{turn}
use Rattle.lincomb.specs.Merging.{merge, onward, taken, Pulled}

merge_nil : (ts : List Term) → merge ts [] ≡ ts
unfolding merge
merge_nil [] = refl
merge_nil (t ∷ ts) = refl

merge_left : (t : Term) (ts : List Term) → merge (t ∷ ts) [] ≡ t ∷ merge ts []
merge_left t ts = merge_nil (t ∷ ts) ∙ ap (λ (us : List Term). t ∷ us) (sym (merge_nil ts))

merge_right : (u : Term) (us : List Term) → merge [] (u ∷ us) ≡ u ∷ merge [] us
unfolding merge
merge_right u us = refl

module _ (t u : Term) (ts us : List Term) where
  merge_less : before t u ≡ true → merge (t ∷ ts) (u ∷ us) ≡ t ∷ merge ts (u ∷ us)
  unfolding merge
  merge_less e = rw e

  merge_greater : before t u ≡ false → before u t ≡ true → merge (t ∷ ts) (u ∷ us) ≡ u ∷ merge (t ∷ ts) us
  unfolding merge
  merge_greater e f = rw (e, f)

  merge_level : before t u ≡ false → before u t ≡ false → merge (t ∷ ts) (u ∷ us) ≡ join t u ∷ merge ts us
  unfolding merge
  merge_level e f = rw (e, f)

other_way : (t u : Term) → before t u ≡ true → before u t ≡ false
other_way t u e = go (before u t) refl
  where
    go : (x : Bool) → before u t ≡ x → x ≡ false
    go true f = absurd (before_one_way t u e f)
    go false f = refl

-- the next term of the second list, with its sign
pub next_right : (minus : Bool) (ys : List Term) (j : ℕ) (u v : Term) → At ys j v → u ≡ turn minus v
    → map (turn minus) (drop j ys) ≡ u ∷ map (turn minus) (drop (j + 1) ys)
next_right minus ys j u v e eu = ap (map (turn minus)) e ∙ ap (λ (x : Term). x ∷ map (turn minus) (drop (j + 1) ys)) (sym eu)

module _ (minus : Bool) (xs : List Term) (i : ℕ) (ys : List Term) (j : ℕ) where
  abbrev rest : ℕ → List Term
  rest k = map (turn minus) (drop k ys)

  pub only_left : (t : Term) → i < length xs → length ys ≤ j → j ≤ length ys → At xs i t
      → Pulled minus xs i ys j (record { term = t; left = i + 1; right = j })
  only_left t h k k' e =
      let none : rest j ≡ [] = ap (map (turn minus)) (drop_of_length-le ys {i = j} k) in
      record {
        front = ap₂ merge e none ∙ merge_left t _ ∙ ap (λ (us : List Term). t ∷ merge (drop (i + 1) xs) us) (sym none);
        left = ap (λ (k : ℕ). i + k) (sym (ap₂ taken e none));
        right = sym (ap (λ (k : ℕ). j + k) (ap₂ taken none e) ∙ add-zero j);
        left_in = omega arith;
        right_in = k';
        on = omega arith;
      }

  pub only_right : (u : Term) → j < length ys → rest j ≡ u ∷ rest (j + 1) → length xs ≤ i → i ≤ length xs
      → Pulled minus xs i ys j (record { term = u; left = i; right = j + 1 })
  only_right u k e h h' =
      let none : drop i xs ≡ [] = drop_of_length-le xs {i = i} h in
      record {
        front = ap₂ merge none e ∙ merge_right u _ ∙ ap (λ (ts : List Term). u ∷ merge ts (rest (j + 1))) (sym none);
        left = sym (ap (λ (k : ℕ). i + k) (ap₂ taken none e) ∙ add-zero i);
        right = ap (λ (k : ℕ). j + k) (sym (ap₂ taken e none));
        left_in = h';
        right_in = omega arith;
        on = omega arith;
      }

  -- t is the next term of the first record, and u of the second
  pub record Heads (t u : Term) : Type 0 where
    pub left_there : i < length xs
    pub right_there : j < length ys
    pub left : At xs i t
    pub right : At ys j u

  module _ {t u : Term} (p : Heads t u) where
    abbrev u' : Term
    u' = turn minus u

    second : rest j ≡ u' ∷ rest (j + 1)
    second = next_right minus ys j u' u p.right refl

    -- a sign changes no order
    before_turned : before t u' ≡ before t u
    unfolding before
    before_turned = refl

    turned_before : before u' t ≡ before u t
    unfolding before
    turned_before = refl

    -- what is taken of each, by the order of the two terms
    of_left : (x : Bool) → before u' t ≡ x → i + cond x 0 1 ≡ i + taken (drop i xs) (rest j)
    of_left x e = ap (λ (k : ℕ). i + k) (sym (ap₂ taken p.left second ∙ ap (λ (y : Bool). cond y 0 1) e))

    of_right : (x : Bool) → before t u' ≡ x → j + cond x 0 1 ≡ j + taken (rest j) (drop i xs)
    of_right x e = ap (λ (k : ℕ). j + k) (sym (ap₂ taken second p.left ∙ ap (λ (y : Bool). cond y 0 1) e))

    pub step_less : before t u ≡ true → Pulled minus xs i ys j (record { term = t; left = i + 1; right = j })
    step_less less =
        let e : before t u' ≡ true = before_turned ∙ less in
        record {
          front = ap₂ merge p.left second ∙ merge_less t u' _ _ e ∙ ap (λ (us : List Term). t ∷ merge (drop (i + 1) xs) us) (sym second);
          left = of_left false (other_way t u' e);
          right = sym (add-zero j) ∙ of_right true e;
          left_in = omega (arith, p.left_there);
          right_in = omega (arith, p.right_there);
          on = omega arith;
        }

    module _ (not_less : before t u ≡ false) where
      e : before t u' ≡ false
      e = before_turned ∙ not_less

      pub step_greater : (w : Term) → w ≡ u' → before u t ≡ true → Pulled minus xs i ys j (record { term = w; left = i; right = j + 1 })
      step_greater w is greater =
          let f : before u' t ≡ true = turned_before ∙ greater in
          record {
            front =
                ap₂ merge p.left second ∙ merge_greater t u' _ _ e f ∙ ap₂ (λ (x : Term) (ts : List Term). x ∷ merge ts (rest (j + 1))) (sym is) (sym p.left);
            left = sym (add-zero i) ∙ of_left true f;
            right = of_right false e;
            left_in = omega (arith, p.left_there);
            right_in = omega (arith, p.right_there);
            on = omega arith;
          }

      pub step_level : (w : Term) → w ≡ join t u' → before u t ≡ false → Pulled minus xs i ys j (record { term = w; left = i + 1; right = j + 1 })
      step_level w is not_greater =
          let f : before u' t ≡ false = turned_before ∙ not_greater in
          record {
            front = ap₂ merge p.left second ∙ merge_level t u' _ _ e f ∙ ap (λ (x : Term). x ∷ onward minus xs (i + 1) ys (j + 1)) (sym is);
            left = of_left false f;
            right = of_right false e;
            left_in = omega (arith, p.left_there);
            right_in = omega (arith, p.right_there);
            on = omega arith;
          }

-- a coefficient of a light list is small, with either sign
pub small_read : (ts : List Term) (i : ℕ) (t : Term) → weight ts ≤ 2 ^ 60 → At ts i t → nat_abs t.coeff ≤ 2 ^ 60
small_read ts i t light e = omega (arith, weight_at ts i t e)

pub small_turned : (minus : Bool) (t u : Term) → u ≡ turn minus t → nat_abs t.coeff ≤ 2 ^ 60 → nat_abs u.coeff ≤ 2 ^ 60
small_turned minus t u e h = omega (arith, ap (λ (x : Term). nat_abs x.coeff) e, abs_signed minus t.coeff)

-- nothing is left of either
pub spent : (minus : Bool) (ts : List Term) (i : ℕ) (us : List Term) (j : ℕ) → length ts ≤ i → length us ≤ j → onward minus ts i us j ≡ []
unfolding merge
spent minus ts i us j h k = rw (drop_of_length-le ts {i = i} h, drop_of_length-le us {i = j} k)
