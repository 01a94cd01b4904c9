-- Digits can be read back: they make the number, and end at the first byte that is none.
use mathlib.Core.Path.{◌≡◌, refl, sym, ap, ◌∙◌}
use mathlib.Core.List.{List, [], ◌∷◌, ◌++◌, append_assoc}
use mathlib.Core.Logic.{⊎_elim}
use Prim.Native.Nat.{ℕ, zero, suc, ◌+◌, ◌*◌, ◌-◌, ◌/◌, ◌%◌, ◌<◌}
use native.Mathlib.Omega.{arith}
use borrow.Author.Tests.{lt-ltb, le-ltb}
use Rattle.modes.proofs.Digits.{lt_or_ge}
use Rattle.modes.specs.Every.{Every, none, more}
use Rattle.decimals.specs.Decimal.{digits, decimal, field, read_on}
use Rattle.decimals.proofs.Written.{Digit, decimal_digits}

read_append : (n : ℕ) (xs ys : List ℕ) → read_on n (xs ++ ys) ≡ read_on (read_on n xs) ys
unfolding read_on
read_append n [] ys = refl
read_append n (x ∷ xs) ys = read_append (10 * n + (x - 48)) xs ys

digits_read : (k n : ℕ) → n < k → read_on 0 (digits k n) ≡ n
unfolding digits read_on
digits_read zero n h = elim h [ ]
digits_read (suc k) n h =
    ⊎_elim (λ small. rw (lt-ltb n 10 small) (omega arith))
    (λ big. rw (le-ltb n 10 big, read_append 0 (digits k (n / 10)) ((48 + n % 10) ∷ []), digits_read k (n / 10) (omega arith)) (omega arith))
    (lt_or_ge n 10)

-- THE DIGITS of a number make it
pub decimal_reads : (n : ℕ) → read_on 0 (decimal n) ≡ n
unfolding decimal
decimal_reads n = digits_read (suc n) n (omega arith)

decimal_one : (m n : ℕ) → decimal m ≡ decimal n → m ≡ n
decimal_one m n e = sym (decimal_reads m) ∙ ap (read_on 0) e ∙ decimal_reads n

-- digits end at the first byte that is none
apart : (xs ys us vs : List ℕ) (end : ℕ) → end < 48 → Every Digit xs → Every Digit ys → xs ++ (end ∷ us) ≡ ys ++ (end ∷ vs) → (xs ≡ ys) × (us ≡ vs)
apart [] [] us vs end h none none e = (refl, cc)
apart [] (y ∷ ys) us vs end h none (more k ks) e = let z : end ≡ y = cc in absurd (omega arith)
apart (x ∷ xs) [] us vs end h (more k ks) none e = let z : x ≡ end = cc in absurd (omega arith)
apart (x ∷ xs) (y ∷ ys) us vs end h (more k ks) (more l ls) e =
    let tails : xs ++ (end ∷ us) ≡ ys ++ (end ∷ vs) = cc in
    let rest = apart xs ys us vs end h ks ls tails in
    let heads : x ≡ y = cc in
    (λ i. heads i ∷ rest.0 i, rest.1)

-- two fields with the same byte after the number, whatever follows each
pub field_apart : (m n end : ℕ) (us vs : List ℕ) → end < 48 → field m end ++ us ≡ field n end ++ vs → (m ≡ n) × (us ≡ vs)
field_apart m n end us vs h e =
    let both =
    apart (decimal m) (decimal n) us vs end h (decimal_digits m) (decimal_digits n)
    (sym (append_assoc (decimal m) (end ∷ []) us) ∙ e ∙ append_assoc (decimal n) (end ∷ []) vs) in
    (decimal_one m n both.0, both.1)
