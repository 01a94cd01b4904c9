-- A part of a slice that is lent to a call, and bytes stored side by side.
use mathlib.Core.Path.{◌≡◌, refl, ap, ◌∙◌}
use mathlib.Core.List.{List, ◌++◌, append_assoc}
use Prim.Native.Nat.{ℕ, ◌+◌, ◌*◌, ◌-◌, ◌≤◌, ◌<◌}
use native.Mathlib.Omega.{arith}
use lib.ListN.{length, length-append}
use borrow.Rule.Slice.PartMut.{mid_of, put_mid, Post-is, mid_len}
use Rattle.lent.specs.Bytes.{bytes, zeros, put, put_half}
use Rattle.lent.proofs.Numbers.{length_bytes}
use Rattle.lent.proofs.NumbersAt.{length_stored}
use Rattle.lent.proofs.Puts.{length_put, put_join}
use Rattle.slots.proofs.Parts.{length_zeros}
use Rattle.slots.specs.Half.{entry_bytes, holding, without}

-- n bytes from a on, up to e, are lent, and come back as ys
module _ (a e n : ℕ) (xs : List ℕ) (is : e ≡ a + n) (fits : e ≤ length xs) where
  pub lent_part : (ys : List ℕ) → length ys ≡ n → put_mid a (e - a) xs ys ≡ put xs a ys
  unfolding put
  lent_part ys size =
      let past : a + length ys ≡ e = omega arith in
      rw (Post-is a e xs (omega arith), past)

  pub lent_size : length (mid_of a (e - a) xs) ≡ n
  lent_size = mid_len a e xs fits ∙ omega arith

  -- as zeros
  pub wiped_part : (ys : List ℕ) → ys ≡ zeros (length (mid_of a (e - a) xs)) → put_mid a (e - a) xs ys ≡ put xs a (zeros n)
  wiped_part ys z =
      let zero : ys ≡ zeros n = z ∙ ap zeros lent_size in
      lent_part ys (ap length zero ∙ length_zeros n) ∙ ap (put xs a) zero

-- place, length and zeros stored side by side are an entry
pub entry_stored : (l : List ℕ) (o p n : ℕ) → o ≤ length l
    → put (put (put l o (bytes 4 p)) (o + 4) (bytes 4 n)) (o + 8) (zeros 24) ≡ put l o (entry_bytes p n)
entry_stored l o p n h =
    let two : o + length (bytes 4 p ++ bytes 4 n) ≡ o + 8 = simp (length-append, length_bytes) in
    ap (λ (z : List ℕ). put z (o + 8) (zeros 24)) (put_join l (bytes 4 p) (bytes 4 n) o (o + 4) h (simp length_bytes))
    ∙ put_join l (bytes 4 p ++ bytes 4 n) (zeros 24) o (o + 8) h two
    ∙ ap (put l o) (append_assoc (bytes 4 p) (bytes 4 n) (zeros 24))

module _ (h : List ℕ) (i : ℕ) (size : length h ≡ 32768) (slot : i < 16) where
  -- a record stored, and its entry
  pub held : (l k j ys a : List ℕ) (p : ℕ) → p + length a ≤ 32768 → l ≡ put h p a → k ≡ put_half l (32 * i) p → j ≡ put_half k (32 * i + 4) (length a)
      → ys ≡ zeros (length (mid_of (32 * i + 8) (32 * i + 32 - (32 * i + 8)) j))
      → put_mid (32 * i + 8) (32 * i + 32 - (32 * i + 8)) j ys ≡ holding h i p a
  held l k j ys a p fits el ek ej z =
      let sl : length l ≡ 32768 = ap length el ∙ length_put h p a (omega arith) ∙ size in
      let sk : length k ≡ 32768 = ap length ek ∙ length_stored 4 l (32 * i) p (omega arith) ∙ sl in
      let sj : length j ≡ 32768 = ap length ej ∙ length_stored 4 k (32 * i + 4) (length a) (omega arith) ∙ sk in
      wiped_part (32 * i + 8) (32 * i + 32) 24 j (omega arith) (omega arith) ys z
      ∙ rw (ej, ek) (entry_stored l (32 * i) p (length a) (omega arith)) ∙ ap (λ (x : List ℕ). put x (32 * i) (entry_bytes p (length a))) el

  -- a record wiped, and its entry
  pub released : (ys zs : List ℕ) (p n : ℕ) → p + n ≤ 32768 → ys ≡ zeros (length (mid_of p (p + n - p) h))
      → zs ≡ zeros (length (mid_of (32 * i) (32 * i + 32 - 32 * i) (put_mid p (p + n - p) h ys)))
      → put_mid (32 * i) (32 * i + 32 - 32 * i) (put_mid p (p + n - p) h ys) zs ≡ without h i p n
  released ys zs p n fits zy zz =
      let first : put_mid p (p + n - p) h ys ≡ put h p (zeros n) = wiped_part p (p + n) n h refl (omega arith) ys zy in
      let room : p + length (zeros n) ≤ length h = rw (length_zeros n) (omega arith) in
      let all : length (put_mid p (p + n - p) h ys) ≡ 32768 = ap length first ∙ length_put h p (zeros n) room ∙ size in
      wiped_part (32 * i) (32 * i + 32) 32 _ refl (omega arith) zs zz ∙ ap (λ (x : List ℕ). put x (32 * i) (zeros 32)) first
