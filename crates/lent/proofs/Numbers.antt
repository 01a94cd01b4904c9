-- Numbers as bytes and bytes as numbers, at any width.
use mathlib.Core.Path.{◌≡◌, refl, ap}
use mathlib.Core.List.{List, [], ◌∷◌, ◌++◌}
use Prim.Native.Nat.{ℕ, zero, suc, ◌+◌, ◌*◌, ◌/◌, ◌%◌, ◌^◌, ◌<◌}
use native.Mathlib.Omega.{arith}
use native.Mathlib.Nat.{mul-add, mul_assoc, pow-suc, pow-succ', div-div-eq-div-mul, add_assoc}
use lib.ListN.{length, get_or}
use Rattle.std.specs.Int.{w64, to_le_bytes}
use Rattle.lent.specs.Bytes.{bytes, num}

pub length_bytes : (n x : ℕ) → length (bytes n x) ≡ n
unfolding bytes
length_bytes zero x = refl
length_bytes (suc n) x = ap suc (length_bytes n (x / 256))

-- the eight bytes of x, the low byte first, as std's `to_le_bytes` gives them
pub eight_bytes : (x : ℕ) → to_le_bytes w64 x ≡ bytes 8 x
unfolding bytes
eight_bytes x = rw (
  div-div-eq-div-mul x 256 256,
  div-div-eq-div-mul x 65536 256,
  div-div-eq-div-mul x 16777216 256,
  div-div-eq-div-mul x 4294967296 256,
  div-div-eq-div-mul x 1099511627776 256,
  div-div-eq-div-mul x 281474976710656 256,
)

-- the n bytes of x make x, where x has no more
pub num_bytes : (n x : ℕ) → x < 256 ^ n → num (bytes n x) ≡ x
unfolding bytes num
num_bytes zero x h = let g : x < 1 = h in omega arith
num_bytes (suc n) x h =
    let p : 256 ^ suc n ≡ 256 ^ n * 256 = pow-suc 256 n in
    let q : x / 256 < 256 ^ n = omega arith in
    rw (num_bytes n (x / 256) q) (omega arith)

-- the bytes of the number that bytes make are these bytes
pub bytes_num : (bs : List ℕ) → ((k : ℕ) → get_or bs k 0 < 256) → bytes (length bs) (num bs) ≡ bs
unfolding bytes num
bytes_num [] h = refl
bytes_num (b ∷ bs) h =
    let low : b < 256 = h 0 in
    let p : (b + 256 * num bs) % 256 ≡ b = omega arith in
    let q : (b + 256 * num bs) / 256 ≡ num bs = omega arith in
    rw (p, q, bytes_num bs (λ k. h (suc k)))

-- n bytes make a number of n bytes
pub num_below : (bs : List ℕ) → ((k : ℕ) → get_or bs k 0 < 256) → num bs < 256 ^ length bs
unfolding num
num_below [] h = omega arith
num_below (b ∷ bs) h =
    let low : b < 256 = h 0 in
    let p : 256 ^ suc (length bs) ≡ 256 ^ length bs * 256 = pow-suc 256 (length bs) in
    let q : num bs < 256 ^ length bs = num_below bs (λ k. h (suc k)) in
    omega arith

-- the number of bytes in two parts
pub num_append : (a b : List ℕ) → num (a ++ b) ≡ num a + 256 ^ length a * num b
unfolding num
num_append [] b = omega arith
num_append (x ∷ a) b = rw (num_append a b, pow-succ', mul_assoc, mul-add, add_assoc)
