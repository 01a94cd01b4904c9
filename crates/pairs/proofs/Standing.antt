-- Rows that stand for others: after more rows, in another order, and where two rows cancel.
use mathlib.Core.Path.{◌≡◌, refl, sym, ap, ap₂, ◌∙◌}
use mathlib.Core.Bool.{Bool, true, false, cond, ◌&&◌}
use mathlib.Core.List.{List, [], ◌∷◌, ◌++◌}
use Prim.Native.Nat.{ℕ, ◌+◌, ◌*◌, ◌≤◌}
use native.Mathlib.Nat.{le_refl, le_trans, zero-add}
use native.Mathlib.Omega.{arith}
use lib.Dec.{eqb}
use lib.IntN.{ℤ, pos, ◌+ℤ◌, +ℤ_idr, +ℤ_assoc, +ℤ_comm}
use lib.ListN.{length}
use Rattle.modes.specs.declared.Term.{Term}
use Rattle.modes.proofs.Sums.{sum_append, sum_last}
use Rattle.lent.specs.Rows.{put_row, rows_at, Fit}
use Rattle.lent.proofs.RowLaws.{rows_put}
use Rattle.record.specs.Coefficients.{coeff_in, coeff_of}
use Rattle.collect.specs.KeyWeights.{key_weight}
use Rattle.collect.proofs.KeyWeights.{weight_append}
use Rattle.pairs.specs.Filling.{Stands, Opposite, Settled, kept}
use Rattle.pairs.specs.declared.Fill.{Fill}

pub stands_same : (us ts : List Term) → us ≡ ts → Stands us ts
stands_same us ts e = record { coeff = λ c a. ap (coeff_of c a) e; light = λ c a. rw e (le_refl (key_weight c a ts)) }

pub stands_trans : {us ts vs : List Term} → Stands us ts → Stands ts vs → Stands us vs
stands_trans s t = record { coeff = λ c a. s.coeff c a ∙ t.coeff c a; light = λ c a. le_trans (s.light c a) (t.light c a) }

-- more rows after both
pub stands_append : (us ts vs : List Term) → Stands us ts → Stands (us ++ vs) (ts ++ vs)
stands_append us ts vs s = record {
  coeff = λ c a. sum_append (coeff_in c a) us vs ∙ ap (λ (z : ℤ). z +ℤ coeff_of c a vs) (s.coeff c a) ∙ sym (sum_append (coeff_in c a) ts vs);
  light = λ c a. omega (arith, weight_append c a us vs, weight_append c a ts vs, s.light c a);
}

-- two parts exchanged
pub stands_swap : (us xs ys : List Term) → Stands ((us ++ xs) ++ ys) ((us ++ ys) ++ xs)
stands_swap us xs ys = record {
  coeff = λ c a.
      by c a xs ys ∙ +ℤ_assoc (coeff_of c a us) (coeff_of c a xs) (coeff_of c a ys)
      ∙ ap (λ (z : ℤ). coeff_of c a us +ℤ z) (+ℤ_comm (coeff_of c a xs) (coeff_of c a ys))
      ∙ sym (+ℤ_assoc (coeff_of c a us) (coeff_of c a ys) (coeff_of c a xs)) ∙ sym (by c a ys xs);
  light = λ c a.
      omega (arith, weight_append c a (us ++ xs) ys, weight_append c a us xs, weight_append c a (us ++ ys) xs, weight_append c a us ys);
}
  where
    by : (c a : ℕ) (vs ws : List Term) → coeff_of c a ((us ++ vs) ++ ws) ≡ (coeff_of c a us +ℤ coeff_of c a vs) +ℤ coeff_of c a ws
    by c a vs ws = sum_append (coeff_in c a) (us ++ vs) ws ∙ ap (λ (z : ℤ). z +ℤ coeff_of c a ws) (sum_append (coeff_in c a) us vs)

-- two rows that cancel, gone from the end
pub stands_cancel : (us : List Term) (x y : Term) → Opposite x y → Stands us ((us ++ (y ∷ [])) ++ (x ∷ []))
stands_cancel us x y o = record {
  coeff = λ c a. sym (
      sum_last (coeff_in c a) (us ++ (y ∷ [])) x ∙ ap (λ (z : ℤ). z +ℤ coeff_in c a x) (sum_last (coeff_in c a) us y)
      ∙ +ℤ_assoc (coeff_of c a us) (coeff_in c a y) (coeff_in c a x)
      ∙ ap (λ (z : ℤ). coeff_of c a us +ℤ z) (+ℤ_comm (coeff_in c a y) (coeff_in c a x) ∙ nothing c a) ∙ +ℤ_idr (coeff_of c a us));
  light = λ c a. omega (arith, weight_append c a (us ++ (y ∷ [])) (x ∷ []), weight_append c a us (y ∷ []));
}
  where
    at : (b : Bool) → cond b x.coeff (pos 0) +ℤ cond b y.coeff (pos 0) ≡ pos 0
    at true = o.coeff
    at false = refl

    nothing : (c a : ℕ) → coeff_in c a x +ℤ coeff_in c a y ≡ pos 0
    nothing c a =
        ap (λ (z : ℤ). z +ℤ coeff_in c a y) (ap₂ (λ (p q : ℕ). cond (eqb p a && eqb q c) x.coeff (pos 0)) o.ann o.cre) ∙ at (eqb y.ann a && eqb y.cre c)

-- the row in hand, settled
module _ (x : Term) (l : List ℕ) (s : Fill) where
  pub settled_kept : s.used + 24 ≤ length l → Fit x → (m : List ℕ) → m ≡ put_row l s.used x → Settled x l s m (record { used = s.used + 24; held = s.held })
  settled_kept h f m e =
      kept refl refl (λ count q. ap (λ (k : List ℕ). rows_at k 0 (count + 1)) (e ∙ ap (λ (o : ℕ). put_row l o x) (q ∙ sym (zero-add (24 * count))))
      ∙ rows_put l 0 count x (omega (arith, q)) f)
