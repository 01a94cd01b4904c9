-- Numbers read from a list of bytes, at any width: what was stored is read back, what stands beside a store is kept.
use mathlib.Core.Path.{◌≡◌, refl, sym, ap, ◌∙◌}
use mathlib.Core.List.{List, [], ◌∷◌, ◌++◌}
use Prim.Native.Nat.{ℕ, zero, suc, ◌+◌, ◌*◌, ◌^◌, ◌≤◌, ◌<◌}
use native.Mathlib.Omega.{arith}
use native.Mathlib.Nat.{zero-add, suc-add, add_assoc}
use native.Mathlib.Numerals.{add-one}
use lib.ListN.{length, get_or, take, drop, length-drop}
use lib.Seq.{drop-cons, drop_at, take_at, take-nil, length-take-le, get_or-drop}
use Rattle.lent.specs.Bytes.{bytes, num, num_at, put}
use Rattle.lent.proofs.Numbers.{length_bytes, num_bytes, bytes_num, num_below}
use Rattle.lent.proofs.Puts.{length_put, take_put, drop_put, byte_before, byte_after}

-- the number that stands after the first part of a list
pub num_at_is : (a b c : List ℕ) (o n : ℕ) → length a ≡ o → length b ≡ n → num_at n (a ++ (b ++ c)) o ≡ num b
unfolding num_at
num_at_is a b c o n p q = rw (drop_at a (b ++ c) o p, take_at b c n q)

-- byte by byte
pub num_step : (n : ℕ) (l : List ℕ) (o : ℕ) → o < length l → num_at (suc n) l o ≡ get_or l o 0 + 256 * num_at n l (o + 1)
unfolding num_at num
num_step n l o h = rw (drop-cons l o 0 h, add-one)

-- no bytes
pub num_none : (l : List ℕ) (o : ℕ) → num_at 0 l o ≡ 0
unfolding num_at num
num_none l o = refl

-- of the bytes from o on, the k-th and those past it
pub num_along : (n k : ℕ) (l : List ℕ) (o : ℕ) → o + k < length l → num_at (suc n) l (o + k) ≡ get_or l (o + k) 0 + 256 * num_at n l (o + suc k)
num_along n k l o h = rw (num_step n l (o + k) h, add_assoc o k 1, add-one)

part_of : (p k : ℕ) (l : List ℕ) → drop p (take (p + k) l) ≡ take k (drop p l)
part_of zero k l = rw zero-add
part_of (suc p) k [] = rw suc-add (sym (take-nil k))
part_of (suc p) k (x ∷ l) = rw suc-add (part_of p k l)

-- beside a store
module _ (l : List ℕ) (o : ℕ) (bs : List ℕ) (fits : o + length bs ≤ length l) where
  pub num_before : (n p : ℕ) → p + n ≤ o → num_at n (put l o bs) p ≡ num_at n l p
  unfolding num_at
  num_before n p h =
      ap num (sym (part_of p n (put l o bs)) ∙ ap (drop p) (take_put l o bs fits (p + n) h) ∙ part_of p n l)

  num_after : (n p : ℕ) → o + length bs ≤ p → num_at n (put l o bs) p ≡ num_at n l p
  unfolding num_at
  num_after n p h = ap (λ (z : List ℕ). num (take n z)) (drop_put l o bs fits p h)

-- what was stored
pub num_put : (n : ℕ) (l : List ℕ) (o x : ℕ) → o ≤ length l → x < 256 ^ n → num_at n (put l o (bytes n x)) o ≡ x
unfolding put
num_put n l o x h k =
    num_at_is (take o l) (bytes n x) (drop (o + length (bytes n x)) l) o n (length-take-le o l h) (length_bytes n x) ∙ num_bytes n x k

-- a number stored in n bytes, and what stands beside it
module _ (n : ℕ) (l : List ℕ) (o x : ℕ) (fits : o + n ≤ length l) where
  room : o + length (bytes n x) ≤ length l
  room = rw (length_bytes n x) fits

  past : (p : ℕ) → o + n ≤ p → o + length (bytes n x) ≤ p
  past p h = rw (length_bytes n x) h

  pub length_stored : length (put l o (bytes n x)) ≡ length l
  length_stored = length_put l o (bytes n x) room

  pub stored_before : (k p : ℕ) → p + k ≤ o → num_at k (put l o (bytes n x)) p ≡ num_at k l p
  stored_before = num_before l o (bytes n x) room

  pub stored_after : (k p : ℕ) → o + n ≤ p → num_at k (put l o (bytes n x)) p ≡ num_at k l p
  stored_after k p h = num_after l o (bytes n x) room k p (past p h)

  pub byte_stored_before : (k : ℕ) → k < o → get_or (put l o (bytes n x)) k 0 ≡ get_or l k 0
  byte_stored_before = byte_before l o (bytes n x) room

  pub byte_stored_after : (k : ℕ) → o + n ≤ k → get_or (put l o (bytes n x)) k 0 ≡ get_or l k 0
  byte_stored_after k h = byte_after l o (bytes n x) room k (past k h)

small_take : (n : ℕ) (l : List ℕ) → ((k : ℕ) → get_or l k 0 < 256) → (k : ℕ) → get_or (take n l) k 0 < 256
small_take zero l h k = omega arith
small_take (suc n) [] h k = omega arith
small_take (suc n) (x ∷ l) h zero = h 0
small_take (suc n) (x ∷ l) h (suc k) = small_take n l (λ j. h (suc j)) k

-- of bytes below 256
module _ (n : ℕ) (l : List ℕ) (o : ℕ) (fits : o + n ≤ length l) (small : (k : ℕ) → get_or l k 0 < 256) where
  here : List ℕ
  here = take n (drop o l)

  whole : length here ≡ n
  unfolding here
  whole = length-take-le n (drop o l) (simp length-drop (omega arith))

  each : (k : ℕ) → get_or here k 0 < 256
  unfolding here
  each k = small_take n (drop o l) (λ j. rw get_or-drop (small (o + j))) k

  pub num_at_below : num_at n l o < 256 ^ n
  unfolding num_at here
  num_at_below = rw whole at (num_below here each)

  pub bytes_at : bytes n (num_at n l o) ≡ take n (drop o l)
  unfolding num_at here
  bytes_at = rw whole at (bytes_num here each)
