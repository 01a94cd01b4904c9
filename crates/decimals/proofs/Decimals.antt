-- Decimal digits: as the code makes them, and how many there are.
use mathlib.Core.Path.{◌≡◌, ap}
use mathlib.Core.List.{List, [], ◌∷◌, ◌++◌}
use mathlib.Core.Logic.{⊎_elim}
use Prim.Native.Nat.{ℕ, zero, suc, ◌+◌, ◌/◌, ◌%◌, ◌^◌, ◌≤◌, ◌<◌}
use native.Mathlib.Omega.{arith}
use native.Mathlib.Nat.{pow-suc, lt_of_lt_of_le}
use lib.Dec.{lit≤}
use lib.ListN.{length, set, length-append}
use borrow.Author.Tests.{lt-ltb, le-ltb}
use Rattle.modes.proofs.Digits.{lt_or_ge}
use Rattle.decimals.specs.Decimal.{digits, decimal, field}
use Rattle.decimals.specs.Stores.{Stored}
use Rattle.decimals.proofs.Stores.{stored_one, stored_join}

-- where there are enough, it does not matter how many more
enough : (j k n : ℕ) → n < j → n < k → digits j n ≡ digits k n
unfolding digits
enough zero k n h g = elim h [ ]
enough (suc j) zero n h g = elim g [ ]
enough (suc j) (suc k) n h g =
    ⊎_elim (λ small. rw (lt-ltb n 10 small)) (λ big. rw (le-ltb n 10 big, enough j k (n / 10) (omega arith) (omega arith))) (lt_or_ge n 10)

pub decimal_digit : (n : ℕ) → n < 10 → decimal n ≡ (48 + n) ∷ []
unfolding decimal digits
decimal_digit n h = rw (lt-ltb n 10 h) (ap (λ (d : ℕ). (48 + d) ∷ []) (omega arith))

pub decimal_more : (n : ℕ) → 10 ≤ n → decimal n ≡ decimal (n / 10) ++ ((48 + n % 10) ∷ [])
unfolding decimal digits
decimal_more n h =
    rw (le-ltb n 10 h) (ap (λ (l : List ℕ). l ++ ((48 + n % 10) ∷ [])) (enough n (suc (n / 10)) (n / 10) (omega arith) (omega arith)))

-- k digits hold every number below 10^k
pub decimal_length : (k n : ℕ) → n < 10 ^ suc k → length (decimal n) ≤ suc k
decimal_length zero n h = let one : n < 10 = h in rw (decimal_digit n one) (omega arith)
decimal_length (suc k) n h =
    ⊎_elim (λ small. rw (decimal_digit n small) (omega arith))
    (λ big. rw (decimal_more n big, length-append) (omega (arith, decimal_length k (n / 10) (omega (arith, pow-suc 10 (suc k))))))
    (lt_or_ge n 10)

-- a number of 64 bits has at most 20 digits
twenty : (n : ℕ) → n < 2 ^ 64 → length (decimal n) ≤ 20
twenty n h = decimal_length 19 n (lt_of_lt_of_le h (lit≤ tt))

-- what the stores of the digits give
module _ (l : List ℕ) (o n : ℕ) (m : List ℕ) (q : ℕ) where
  pub digit_stored : n < 10 → Stored l o ((48 + n) ∷ []) m q → Stored l o (decimal n) m q
  digit_stored h g = rw (decimal_digit n h) g

  pub digits_stored : 10 ≤ n → o ≤ length l → (k : List ℕ) (p : ℕ) → Stored l o (decimal (n / 10)) k p → Stored k p ((48 + n % 10) ∷ []) m q
      → Stored l o (decimal n) m q
  digits_stored h fits k p f g = rw (decimal_more n h) (stored_join (decimal (n / 10)) ((48 + n % 10) ∷ []) fits f g)

pub length_digit : (n : ℕ) → n < 10 → length (decimal n) ≡ 1
length_digit n h = rw (decimal_digit n h)

pub length_more : (n : ℕ) → 10 ≤ n → length (decimal n) ≡ length (decimal (n / 10)) + 1
length_more n h = rw (decimal_more n h, length-append)

-- a number and the byte after it
pub length_field : (n end : ℕ) → length (field n end) ≡ length (decimal n) + 1
length_field n end = length-append (decimal n) (end ∷ [])

pub twenty_one : (n end : ℕ) → n < 2 ^ 64 → length (field n end) ≤ 21
twenty_one n end h = omega (arith, length_field n end, twenty n h)

pub field_stored : {l k : List ℕ} {o p : ℕ} (n end : ℕ) → o ≤ length l → Stored l o (decimal n) k p → p < length k → Stored l o (field n end) (set k p end) (p + 1)
field_stored {l} {k} {o} {p} n end h f g = stored_join (decimal n) (end ∷ []) h f (stored_one k p end g)
