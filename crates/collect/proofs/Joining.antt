-- The walk over rows in order: at each row what is done, what is in hand, and that the rows ahead are still unread.
use mathlib.Core.Path.{◌≡◌, refl, sym, ap, ◌∙◌, subst}
use mathlib.Core.List.{List, [], ◌∷◌, ◌++◌}
use Prim.Native.Nat.{ℕ, ◌+◌, ◌*◌, ◌≤◌, ◌<◌, ◌^◌}
use native.Mathlib.Nat.{zero-add}
use native.Mathlib.Omega.{arith}
use lib.IntN.{nat_abs}
use lib.ListN.{length, drop}
use Rattle.modes.specs.declared.Term.{Term}
use Rattle.modes.specs.Every.{none}
use Rattle.lent.specs.Rows.{Fit, row_at, rows_at}
use Rattle.lent.proofs.RowLaws.{rows_more}
use Rattle.integers.proofs.SignedNumbers.{sum_fits}
use Rattle.places.specs.Order.{key}
use Rattle.products.specs.Product.{Other}
use Rattle.record.specs.Coefficients.{coeff_of}
use Rattle.normal.specs.Normal.{join, collect, drop_zeros}
use Rattle.normal.proofs.Normal.{normal_is}
use Rattle.collect.specs.KeyWeights.{key_weight, Light}
use Rattle.collect.specs.Collected.{Collected}
use Rattle.collect.specs.Steps.{InOrder, Closed, Met, joined, opened}
use Rattle.collect.proofs.KeyWeights.{weight_up}
use Rattle.collect.proofs.InHand.{InHand, first_in_hand, next_in_hand, joined_in_hand, closed_done, both_weigh, comes_after}
use Rattle.collect.proofs.Closing.{same_from, same_row}

-- of the n rows of l, i are read: p rows of m are done, and x is in hand
pub record Joining (n i : ℕ) (l m : List ℕ) (p : ℕ) (x : Term) : Type 0 where
  pub under : p < i
  pub to : i ≤ n
  pub len : length m ≡ length l
  pub ahead : drop (24 * i) m ≡ drop (24 * i) l
  pub hand : InHand (rows_at m 0 p) x (rows_at l 0 i)
  pub next : i < n → key x ≤ key (row_at l (24 * i))

rows_end : (l : List ℕ) (i : ℕ) → rows_at l 0 (i + 1) ≡ rows_at l 0 i ++ (row_at l (24 * i) ∷ [])
rows_end l i = rows_more l 0 i ∙ ap (λ (o : ℕ). rows_at l 0 i ++ (row_at l o ∷ [])) (zero-add (24 * i))

pub joining_from : (n : ℕ) (l : List ℕ) (x : Term) → (n ≡ 0 → ⊥) → InOrder l n → x ≡ row_at l 0 → Fit x → Joining n 1 l l 0 x
unfolding rows_at
joining_from n l x h o e f = record {
  under = omega arith;
  to = omega (arith, h);
  len = refl;
  ahead = refl;
  hand = subst (λ (t : Term). InHand [] x (t ∷ [])) e (first_in_hand x f);
  next = λ b. rw e (o 0 b);
}

module _ (n i : ℕ) (l m : List ℕ) (p : ℕ) (x : Term) (s : Joining n i l m p x) (more : i < n) where
  pub row_room : 24 * n ≤ length l → 24 * i + 24 ≤ length m
  row_room h = rw s.len (omega arith)

  met_row : row_at m (24 * i) ≡ row_at l (24 * i)
  met_row = same_row l m (24 * i) s.ahead

  read : rows_at l 0 i ++ (row_at m (24 * i) ∷ []) ≡ rows_at l 0 (i + 1)
  read = ap (λ (t : Term). rows_at l 0 i ++ (t ∷ [])) met_row ∙ sym (rows_end l i)

  pub meet_light : Light (rows_at l 0 n) → (row_at m (24 * i)).ann ≡ x.ann → (row_at m (24 * i)).cre ≡ x.cre
      → nat_abs x.coeff + nat_abs (row_at m (24 * i)).coeff < 2 ^ 63
  meet_light light e f =
      let u : nat_abs x.coeff + nat_abs (row_at m (24 * i)).coeff ≤ key_weight x.cre x.ann (rows_at l 0 (i + 1)) =
      rw (← read) (both_weigh (rows_at m 0 p) (rows_at l 0 i) x s.hand (row_at m (24 * i)) e f) in
      let v = weight_up x.cre x.ann l 0 (i + 1) n (omega arith) in
      let w = light x.cre x.ann in
      omega arith

  module _ (order : InOrder l n) (light : Light (rows_at l 0 n)) where
    -- a row with the key of the row that was read is not above the next
    next_up : (z : Term) → key z ≡ key (row_at m (24 * i)) → i + 1 < n → key z ≤ key (row_at l (24 * (i + 1)))
    next_up z e b = rw (e ∙ ap key met_row) (order i b)

    after_joined : (row_at m (24 * i)).ann ≡ x.ann → (row_at m (24 * i)).cre ≡ x.cre → Joining n (i + 1) l m p (join x (row_at m (24 * i)))
    unfolding join
    after_joined e f = record {
      under = omega (arith, s.under);
      to = omega arith;
      len = s.len;
      ahead = same_from l m (24 * i) (24 * (i + 1)) (omega arith) s.ahead;
      hand = subst (InHand (rows_at m 0 p) (join x (row_at m (24 * i)))) read
          (joined_in_hand (rows_at m 0 p) (rows_at l 0 i) x s.hand (row_at m (24 * i)) e f (sum_fits x.coeff (row_at m (24 * i)).coeff (meet_light light e f)));
      next = next_up (join x (row_at m (24 * i))) refl;
    }

    after_closed : (m2 : List ℕ) (q : ℕ) → Other (row_at m (24 * i)) x → Closed p x m m2 q → Fit (row_at m (24 * i))
        → Joining n (i + 1) l m2 q (row_at m (24 * i))
    after_closed m2 q other c f = record {
      under = omega (arith, s.under, c.count);
      to = omega arith;
      len = c.len ∙ s.len;
      ahead = same_from m m2 (24 * p + 24) (24 * (i + 1)) (omega (arith, s.under)) c.ahead ∙ same_from l m (24 * i) (24 * (i + 1)) (omega arith) s.ahead;
      hand = subst (InHand (rows_at m2 0 q) (row_at m (24 * i))) read
          (next_in_hand (rows_at m 0 p) (rows_at l 0 i) x s.hand (rows_at m2 0 q) (row_at m (24 * i)) c.rows
          (comes_after x (row_at m (24 * i)) s.hand.own f other (rw met_row (s.next more))) f);
      next = next_up (row_at m (24 * i)) refl;
    }

    pub joining_on : (m2 : List ℕ) (q : ℕ) (z : Term) → Met p x (row_at m (24 * i)) m m2 q z → Joining n (i + 1) l m2 q z
    joining_on m2 q z (joined e f em eq ez) = rw (em, eq, ez) (after_joined e f)
    joining_on m2 q z (opened other c ez f) = rw ez (after_closed m2 q other c f)

pub joined_none : (n : ℕ) (l : List ℕ) → n ≡ 0 → Collected n l l 0
unfolding rows_at collect drop_zeros
joined_none n l e = record { count = omega arith; len = refl; past = refl; rows = rw e; fit = none }

pub joined_all : (n i : ℕ) (l m m2 : List ℕ) (p k : ℕ) (x : Term) → Joining n i l m p x → n ≤ i → Closed p x m m2 k → Collected n l m2 k
joined_all n i l m m2 p k x s h c =
    let e : i ≡ n = omega (arith, s.to) in
    let d = closed_done (rows_at m 0 p) (rows_at l 0 i) x s.hand (rows_at m2 0 k) c.rows in
    record {
      count = omega (arith, s.under, c.count);
      len = c.len ∙ s.len;
      past = same_from m m2 (24 * p + 24) (24 * n) (omega (arith, s.under)) c.ahead ∙ same_from l m (24 * i) (24 * n) (omega arith) s.ahead;
      rows = normal_is (rows_at m2 0 k) (rows_at l 0 n) d.ascending d.nonzero (λ c a. d.coeff c a ∙ ap (λ (j : ℕ). coeff_of c a (rows_at l 0 j)) e);
      fit = d.fit;
    }
