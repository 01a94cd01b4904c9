-- No two answers meet the promise of `helper_of`. `append_all` leaves open which rows cancelled on the way,
-- and what stands in the work where they are too many.
use mathlib.Core.Path.{◌≡◌}
use mathlib.Core.List.{List}
use Prim.Native.Nat.{ℕ, ◌<◌}
use native.Mathlib.Omega.{arith}
use lib.ListN.{length}
use Rattle.modes.specs.declared.Term.{Term}
use Rattle.modes.proofs.Unique.{one}
use Rattle.lent.specs.Rows.{rows_at}
use Rattle.products.specs.declared.ProductHelper.{ProductHelper}
use Rattle.record.specs.Coefficients.{coeff_of}
use Rattle.pairs.specs.declared.Fill.{Fill}
use Rattle.pairs.specs.Filling.{Filled, Grown, filled, over}

pub one_helper : (t u : Term) (r s : ProductHelper) → r ≡ record { l_cre = t.cre; l_ann = t.ann; r_cre = u.cre; r_ann = u.ann }
    → s ≡ record { l_cre = t.cre; l_ann = t.ann; r_cre = u.cre; r_ann = u.ann } → r ≡ s
one_helper t u r s = one

-- in works of one length the same rows are too many
pub one_over : (ts : List Term) (l m : List ℕ) (r s : Fill) → length l ≡ length m → Grown ts l r → Grown ts m s → length l < r.held → length m < s.held
one_over ts l m r s e (filled f) g k = absurd (omega (arith, f.room.fits))
one_over ts l m r s e (over x y) (filled g) k = absurd (omega (arith, g.room.fits, g.held))
one_over ts l m r s e (over x y) (over z w) k = w

-- and where they are not, the bytes held are fixed, and the coefficient at every pair of words
pub one_filling : (ts : List Term) (l m : List ℕ) (r s : Fill) (f : Filled ts l r) (g : Filled ts m s)
    → (r.held ≡ s.held) × ((cre ann : ℕ) → coeff_of cre ann (rows_at l 0 f.count) ≡ coeff_of cre ann (rows_at m 0 g.count))
one_filling ts l m r s f g = (one f.held g.held, λ cre ann. one (f.rows.coeff cre ann) (g.rows.coeff cre ann))
