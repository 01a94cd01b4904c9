-- Stretches of bytes and the numbers in them: what a store writes, what it leaves, and what zeros hold.
use mathlib.Core.Path.{◌≡◌, refl, sym, ap, ◌∙◌}
use mathlib.Core.Logic.{◌⊎◌, ⊎_elim}
use mathlib.Core.List.{List, ◌++◌}
use Prim.Native.Nat.{ℕ, zero, suc, ◌+◌, ◌≤◌, ◌<◌}
use native.Mathlib.Nat.{add-zero}
use native.Mathlib.Omega.{arith}
use lib.ListN.{length, get_or, take, drop, length-drop, length-replicate, take-append-drop}
use lib.Seq.{drop-append-le, take-append-le, drop-append-add, drop-drop, drop_at, take-nil, take-length, length-take-le}
use Rattle.lent.specs.Bytes.{num, num_at, zeros, put}
use Rattle.lent.proofs.Puts.{drop_put, byte_before, byte_after}
use Rattle.slots.specs.Damage.{Beside}

-- a stretch of the first of two lists
part_first : (a b : List ℕ) (q n : ℕ) → q + n ≤ length a → take n (drop q (a ++ b)) ≡ take n (drop q a)
part_first a b q n h =
    let k : n ≤ length (drop q a) = simp length-drop (omega arith) in
    rw (drop-append-le q a b (omega arith), take-append-le n (drop q a) b k)

-- a number in the second
pub num_second : (a b : List ℕ) (m q n : ℕ) → length a ≡ m → num_at n (a ++ b) (m + q) ≡ num_at n b q
unfolding num_at
num_second a b m q n e = rw (← e, drop-append-add a b q)

-- ---- beside a store: what does not meet it is kept

module _ (l : List ℕ) (o : ℕ) (bs : List ℕ) (fits : o + length bs ≤ length l) where
  front : length (take o l) ≡ o
  front = length-take-le o l (omega arith)

  part_before : (q n : ℕ) → q + n ≤ o → take n (drop q (put l o bs)) ≡ take n (drop q l)
  unfolding put
  part_before q n h =
      let k : q + n ≤ length (take o l) = rw front h in
      part_first (take o l) (bs ++ drop (o + length bs) l) q n k
      ∙ sym (part_first (take o l) (drop o l) q n k)
      ∙ ap (λ (z : List ℕ). take n (drop q z)) (take-append-drop o l)

  pub part_kept : (q n : ℕ) → Beside q n o (length bs) → take n (drop q (put l o bs)) ≡ take n (drop q l)
  part_kept q n = ⊎_elim (part_before q n) (λ h. ap (take n) (drop_put l o bs fits q h))

  pub byte_kept : (k : ℕ) → (k < o) ⊎ (o + length bs ≤ k) → get_or (put l o bs) k 0 ≡ get_or l k 0
  byte_kept k = ⊎_elim (byte_before l o bs fits k) (byte_after l o bs fits k)

-- ---- within a store: what was stored is read back

module _ (l : List ℕ) (o : ℕ) (bs : List ℕ) (fits : o ≤ length l) where
  part_within : (d n : ℕ) → d + n ≤ length bs → take n (drop (o + d) (put l o bs)) ≡ take n (drop d bs)
  unfolding put
  part_within d n h =
      let rest = bs ++ drop (o + length bs) l in
      ap (take n) (sym (drop-drop d o (take o l ++ rest)) ∙ ap (drop d) (drop_at (take o l) rest o (length-take-le o l fits)))
      ∙ part_first bs (drop (o + length bs) l) d n h

  pub num_within : (d n : ℕ) → d + n ≤ length bs → num_at n (put l o bs) (o + d) ≡ num_at n bs d
  unfolding num_at
  num_within d n h = ap num (part_within d n h)

  pub part_put : take (length bs) (drop o (put l o bs)) ≡ bs
  part_put = rw add-zero at (part_within 0 (length bs) (omega arith)) ∙ take-length bs

-- ---- zeros

pub length_zeros : (n : ℕ) → length (zeros n) ≡ n
length_zeros n = length-replicate n 0

front_zeros : (n m : ℕ) → num (take n (zeros m)) ≡ 0
unfolding num
front_zeros zero m = refl
front_zeros (suc n) zero = refl
front_zeros (suc n) (suc m) = rw (front_zeros n m)

pub num_zeros : (n m o : ℕ) → num_at n (zeros m) o ≡ 0
unfolding num_at num
num_zeros n m zero = front_zeros n m
num_zeros n zero (suc o) = rw (take-nil n)
num_zeros n (suc m) (suc o) = num_zeros n m o
