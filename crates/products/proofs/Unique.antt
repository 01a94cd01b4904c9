-- No two answers meet a promise of this crate.
use mathlib.Core.Path.{◌≡◌}
use mathlib.Core.Bool.{Bool, not}
use mathlib.Core.List.{List}
use Prim.Native.Nat.{ℕ, ◌+◌, ◌*◌, ◌≤◌, ◌<◌, ◌^◌}
use lib.Count.{ones}
use lib.Dec.{leb}
use lib.IntN.{ℤ, nat_abs}
use lib.ListN.{length}
use Rattle.modes.specs.Words.{bit}
use Rattle.modes.specs.Counts.{count, exchanges}
use Rattle.modes.specs.declared.Sign.{Sign}
use Rattle.modes.specs.declared.Term.{Term}
use Rattle.std.specs.Prelude.{Result}
use Rattle.modes.specs.declared.Refusal.{Refusal}
use Rattle.modes.specs.declared.Written.{Written}
use Rattle.modes.proofs.Digits.{ext}
use Rattle.modes.proofs.Unique.{one}
use Rattle.lent.specs.Bytes.{put}
use Rattle.lent.specs.Rows.{rows_bytes}
use Rattle.lent.specs.Outputs.{Gives}
use Rattle.lent.proofs.Outputs.{gives_one}
use Rattle.products.specs.Apply.{applied}
use Rattle.products.specs.Operators.{signed}
use Rattle.products.specs.Product.{not_empty, branching, row_times, multiplied}
use Rattle.products.specs.Fitting.{rows_of}
use Rattle.products.specs.Walk.{keeping, walk}
use Rattle.products.specs.declared.ApplyResult.{ApplyResult}
use Rattle.products.specs.declared.ProductHelper.{ProductHelper}

pub one_count : (word at r s : ℕ) → (r ≡ exchanges 64 (bit word) (bit at)) × (r ≤ 4096) → (s ≡ exchanges 64 (bit word) (bit at)) × (s ≤ 4096) → r ≡ s
one_count word at r s p q = one p.0 q.0

pub one_application : (cre ann ket : ℕ) (r s : ApplyResult) → r ≡ applied cre ann ket → s ≡ applied cre ann ket → r ≡ s
one_application cre ann ket r s = one

pub one_coefficient : (sign : Sign) (z r s : ℤ) → r ≡ signed sign.0 z → s ≡ signed sign.0 z → r ≡ s
one_coefficient sign z r s = one

pub one_fit : (left room : ℕ) (r s : Bool) → r ≡ leb (24 * 2 ^ ones left) room → s ≡ leb (24 * 2 ^ ones left) room → r ≡ s
one_fit left room r s = one

pub one_kept : (mode : ℕ) (row r s : Term) → (r ≡ keeping mode row) × (nat_abs r.coeff < 2 ^ 63) → (s ≡ keeping mode row) × (nat_abs s.coeff < 2 ^ 63) → r ≡ s
one_kept mode row r s p q = one p.0 q.0

module _ (h : ProductHelper) where
  pub one_emptiness : (r s : Bool) → r ≡ not (not_empty h.l_cre h.l_ann h.r_cre h.r_ann)
      → s ≡ not (not_empty h.l_cre h.l_ann h.r_cre h.r_ann) → r ≡ s
  one_emptiness r s = one

  -- a word is known by its modes
  pub one_branching : (r s : ℕ) → ((p : ℕ) → bit r p ≡ branching h.l_cre h.l_ann h.r_cre h.r_ann p)
      → ((p : ℕ) → bit s p ≡ branching h.l_cre h.l_ann h.r_cre h.r_ann p) → r ≡ s
  one_branching r s f g = ext r s (λ p. one (f p) (g p))

  pub one_lowest : (z : ℤ) (r s : Term) → (r ≡ row_times h.l_cre h.l_ann h.r_cre h.r_ann z 0) × (nat_abs r.coeff < 2 ^ 63)
      → (s ≡ row_times h.l_cre h.l_ann h.r_cre h.r_ann z 0) × (nat_abs s.coeff < 2 ^ 63) → r ≡ s
  one_lowest z r s p q = one p.0 q.0

-- of rows put, and where they end
pub one_rows : (l : List ℕ) (at end : ℕ) (rows : List Term) (r s : ℕ) (x y : List ℕ) → (r ≡ end) × (x ≡ put l at (rows_bytes rows))
    → (s ≡ end) × (y ≡ put l at (rows_bytes rows)) → (r ≡ s) × (x ≡ y)
one_rows l at end rows r s x y p q = (one p.0 q.0, one p.1 q.1)

module _ (l : List ℕ) (at : ℕ) (r s : ℕ) (x y : List ℕ) where
  pub one_walk : (left : ℕ) (row : Term) → (r ≡ at + 24 * 2 ^ count 64 (bit left)) × (x ≡ put l at (rows_bytes (walk (count 64 (bit left)) left row)))
      → (s ≡ at + 24 * 2 ^ count 64 (bit left)) × (y ≡ put l at (rows_bytes (walk (count 64 (bit left)) left row))) → (r ≡ s) × (x ≡ y)
  one_walk left row = one_rows l at _ _ r s x y

  pub one_put_rows : (h : ProductHelper) (z : ℤ) → (r ≡ at + 24 * length (rows_of h z)) × (x ≡ put l at (rows_bytes (rows_of h z)))
      → (s ≡ at + 24 * length (rows_of h z)) × (y ≡ put l at (rows_bytes (rows_of h z))) → (r ≡ s) × (x ≡ y)
  one_put_rows h z = one_rows l at _ (rows_of h z) r s x y

pub one_product : (Lc La Rc Ra room : ℕ) (r s : Result Written Refusal) (x y : List ℕ) → Gives (multiplied Lc La Rc Ra room) r x
    → Gives (multiplied Lc La Rc Ra room) s y → (r ≡ s) × (x ≡ y)
one_product Lc La Rc Ra room r s x y = gives_one
