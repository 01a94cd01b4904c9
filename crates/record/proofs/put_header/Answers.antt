-- `record::put_header` meets its contract: eight numbers side by side.
use mathlib.Core.Path.{◌≡◌, ◌∙◌}
use mathlib.Core.List.{List, [], ◌∷◌}
use Prim.Native.Nat.{ℕ, zero-le}
use Rattle.lent.specs.Bytes.{put_half}
use Rattle.record.specs.Layout.{fields, header}
use Rattle.record.proofs.Numbers.{put_each, put_each_is}
use Rattle.record.proofs.put_header.Goals as goal

module _ (out l1 l2 l3 l4 l5 l6 l7 l8 : List ℕ) (m n x5 x6 x7 : ℕ) where
  eight_stores : l1 ≡ put_half out 0 1 → l2 ≡ put_half l1 4 m → l3 ≡ put_half l2 8 n → l4 ≡ put_half l3 12 32 → l5 ≡ put_half l4 16 x5 → l6 ≡ put_half l5 20 x6
      → l7 ≡ put_half l6 24 x7 → l8 ≡ put_half l7 28 0 → l8 ≡ put_each 4 out 0 (1 ∷ m ∷ n ∷ 32 ∷ x5 ∷ x6 ∷ x7 ∷ 0 ∷ [])
  unfolding put_each
  eight_stores e1 e2 e3 e4 e5 e6 e7 e8 = rw (e8, e7, e6, e5, e4, e3, e2, e1)

-- each store is four states after the one before
pub returns : goal.returns
unfolding header
returns c =
    let start = c.args in
    eight_stores start.out.now _ _ _ _ _ _ _ _ start.m start.n _ _ _ c.put_half.ensures c.put_half-2.ensures c.put_half-3.ensures
    c.put_half-4.ensures c.put_half-5.ensures c.put_half-6.ensures c.put_half-7.ensures c.put_half-8.ensures
    ∙ put_each_is 4 start.out.now 0 (fields start.m start.n) zero-le
