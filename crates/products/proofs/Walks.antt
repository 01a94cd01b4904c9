-- The walk, a mode at a time: how many rows it has, and where their bytes stand.
use mathlib.Core.Path.{◌≡◌, refl, sym, ap, ap₂, ◌∙◌}
use mathlib.Core.Bool.{Bool}
use mathlib.Core.List.{List, append-nil}
use Prim.Native.Nat.{ℕ, zero, suc, ◌+◌, ◌-◌, ◌*◌, ◌^◌, ◌≤◌, ◌<◌}
use native.Mathlib.Nat.{pow-suc}
use native.Mathlib.Omega.{arith}
use lib.Bits.{bit_and, bit_xor}
use lib.ListN.{length, length-append}
use Rattle.modes.specs.Bools.{◌⊕◌}
use Rattle.modes.specs.Words.{bit}
use Rattle.modes.specs.Counts.{count, odd, odd_exchanges}
use Rattle.modes.specs.declared.Term.{Term}
use Rattle.modes.proofs.Digits.{odd_xor}
use Rattle.modes.proofs.Lowest.{Lowest, lowest, lowest_is, lowest_less, lowest_small, count_less}
use Rattle.modes.proofs.Single.{count_nothing}
use Rattle.lent.specs.Bytes.{put}
use Rattle.lent.specs.Rows.{row_bytes, rows_bytes}
use Rattle.lent.proofs.Puts.{put_join}
use Rattle.lent.proofs.RowLaws.{length_rows, rows_append}
use Rattle.products.specs.Walk.{One, keeping, walk}

-- the modes that `keep` passes: x the creations after the mode, y the annihilations before it
pub kept_sign : (c a w x y : ℕ) → odd 64 (bit x) ≡ odd_exchanges 64 (bit w) (bit c) → odd 64 (bit y) ≡ odd_exchanges 64 (bit a) (bit w)
    → odd 64 (bit (bit_xor x y)) ≡ odd_exchanges 64 (bit w) (bit c) ⊕ odd_exchanges 64 (bit a) (bit w)
kept_sign c a w x y p q = odd_xor 64 x y ∙ ap₂ (λ (b d : Bool). b ⊕ d) p q

-- ---- the modes that are left

pub none_left : (left : ℕ) → left ≡ 0 → count 64 (bit left) ≡ 0
none_left left e = ap (λ (x : ℕ). count 64 (bit x)) e ∙ count_nothing 64

module _ (left : ℕ) (some : 0 < left) (small : left < 2 ^ 64) where
  low : Lowest left
  low = lowest left some

  pub one_left : One (left - bit_and left (left - 1))
  one_left = record { at = low.at; small = lowest_small 64 left low small; is = lowest_is left low }

  pub fewer_left : count 64 (bit left) ≡ suc (count 64 (bit (bit_and left (left - 1))))
  fewer_left = count_less 64 low.at (bit left) (bit (bit_and left (left - 1))) (lowest_less left low) (lowest_small 64 left low small)

  pub twice_left : 2 ^ count 64 (bit left) ≡ 2 ^ count 64 (bit (bit_and left (left - 1))) + 2 ^ count 64 (bit (bit_and left (left - 1)))
  twice_left = ap (λ (n : ℕ). 2 ^ n) fewer_left ∙ pow-suc 2 (count 64 (bit (bit_and left (left - 1)))) ∙ omega arith

-- ---- the rows

length_walk : (n left : ℕ) (t : Term) → length (walk n left t) ≡ 2 ^ n
unfolding walk
length_walk zero left t = refl
length_walk (suc n) left t =
    length-append (walk n (bit_and left (left - 1)) t) (walk n (bit_and left (left - 1)) (keeping (left - bit_and left (left - 1)) t))
    ∙ omega (arith, length_walk n (bit_and left (left - 1)) t, length_walk n (bit_and left (left - 1)) (keeping (left - bit_and left (left - 1)) t), pow-suc 2 n)

pub walk_none : (left : ℕ) (t : Term) → left ≡ 0 → rows_bytes (walk (count 64 (bit left)) left t) ≡ row_bytes t
unfolding walk rows_bytes
walk_none left t e = rw (none_left left e) (append-nil (row_bytes t))

-- the bytes of both branches, one after the other
module _ (left : ℕ) (t : Term) (some : 0 < left) (small : left < 2 ^ 64) (l : List ℕ) (at : ℕ) where
  less : ℕ
  less = bit_and left (left - 1)

  pub walk_both : at ≤ length l
      → put (put l at (rows_bytes (walk (count 64 (bit (bit_and left (left - 1)))) (bit_and left (left - 1)) t)))
      (at + 24 * 2 ^ count 64 (bit (bit_and left (left - 1))))
      (rows_bytes (walk (count 64 (bit (bit_and left (left - 1)))) (bit_and left (left - 1)) (keeping (left - bit_and left (left - 1)) t)))
      ≡ put l at (rows_bytes (walk (count 64 (bit left)) left t))
  unfolding walk less
  walk_both h =
      put_join l (rows_bytes low_rows) (rows_bytes high_rows) at (at + 24 * 2 ^ n) h
      (ap (λ (x : ℕ). at + x) (length_rows low_rows ∙ ap (λ (x : ℕ). 24 * x) (length_walk n less t)))
      ∙ ap (put l at) (sym (rows_append low_rows high_rows) ∙ ap rows_bytes (sym (ap (λ (k : ℕ). walk k left t) (fewer_left left some small))))
    where
      n : ℕ
      n = count 64 (bit less)

      low_rows : List Term
      low_rows = walk n less t

      high_rows : List Term
      high_rows = walk n less (keeping (left - less) t)
