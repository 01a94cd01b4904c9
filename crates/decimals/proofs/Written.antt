-- The digits of a number are a number of a text: digits from 0 to 9, and no zero in front of others.
use mathlib.Core.Path.{◌≡◌, refl, sym, ap, ◌∙◌}
use mathlib.Core.Bool.{true, or-true, not, ◌||◌, true≢false}
use mathlib.Core.List.{List, [], ◌∷◌, ◌++◌, append-nil, append_assoc}
use mathlib.Core.Logic.{⊎_elim}
use Prim.Native.Nat.{ℕ, zero, suc, ◌+◌, ◌-◌, ◌*◌, ◌/◌, ◌%◌, ◌≤◌, ◌<◌}
use native.Mathlib.Omega.{arith}
use lib.Dec.{eqb, leb}
use lib.ListN.{length}
use borrow.Author.Tests.{lt-ltb, le-ltb, le-leb, leb-true, eq-eqb, ne_eqb}
use Rattle.modes.specs.Every.{Every, none, more}
use Rattle.modes.proofs.Bools.{and_l, and_r}
use Rattle.modes.proofs.Digits.{lt_or_ge}
use Rattle.modes.proofs.Every.{every_last}
use Rattle.decimals.specs.Decimal.{digits, decimal, read_on}
use Rattle.decimals.specs.Numbers.{is_digit, all_digits, starts_well, is_number}
use Rattle.decimals.proofs.Decimals.{decimal_digit, decimal_more}

-- from 0 to 9, as ASCII
abbrev pub Digit : ℕ → Type 0
Digit d = (48 ≤ d) × (d ≤ 57)

every_digit : (k n : ℕ) → Every Digit (digits k n)
unfolding digits
every_digit zero n = none
every_digit (suc k) n =
    let last : Digit (48 + n % 10) = (omega arith, omega arith) in
    ⊎_elim (λ small. rw (lt-ltb n 10 small) (more {x = 48 + n % 10} last none))
    (λ big. rw (le-ltb n 10 big) (every_last (digits k (n / 10)) (48 + n % 10) (every_digit k (n / 10)) last))
    (lt_or_ge n 10)

-- THE DIGITS of a number, each of them
pub decimal_digits : (n : ℕ) → Every Digit (decimal n)
unfolding decimal
decimal_digits n = every_digit (suc n) n

digits_told : (l : List ℕ) → Every Digit l → all_digits l ≡ true
unfolding all_digits
digits_told [] none = refl
digits_told (d ∷ l) (more h hs) = rw (le-leb 48 d h.0, le-leb d 57 h.1) (digits_told l hs)

-- a number that is not 0 starts with another digit than 0
record Leads (l : List ℕ) : Type 0 where
  pub first : ℕ
  pub later : List ℕ
  pub is : l ≡ first ∷ later
  pub nonzero : first ≡ 48 → ⊥

longer : (l : List ℕ) (d : ℕ) → Leads l → Leads (l ++ (d ∷ []))
longer l d h = record { first = h.first; later = h.later ++ (d ∷ []); is = rw h.is; nonzero = h.nonzero }

leads : (k n : ℕ) → n < k → 1 ≤ n → Leads (digits k n)
unfolding digits
leads zero n h some = elim h [ ]
leads (suc k) n h some =
    ⊎_elim (λ small. rw (lt-ltb n 10 small) (record { first = 48 + n % 10; later = []; is = refl; nonzero = λ e. absurd (omega arith) }))
    (λ big. rw (le-ltb n 10 big) (longer (digits k (n / 10)) (48 + n % 10) (leads k (n / 10) (omega arith) (omega arith))))
    (lt_or_ge n 10)

led : (l : List ℕ) → Leads l → starts_well l ≡ true
unfolding starts_well
led l h = rw (h.is, ne_eqb h.first 48 h.nonzero) (or-true (eqb (length h.later) 0))

starts_well_is : (n : ℕ) → starts_well (decimal n) ≡ true
unfolding decimal digits starts_well
starts_well_is zero = refl
starts_well_is (suc n) = led (decimal (suc n)) (leads (suc (suc n)) (suc n) (omega arith) (omega arith))

pub decimal_number : (n : ℕ) → is_number (decimal n) ≡ true
decimal_number n = rw (starts_well_is n) (digits_told (decimal n) (decimal_digits n))

-- ---- and nothing else is: a number of a text is the digits of what it makes

-- digits read on after a number other than 0 are written after it
written_on : (v : ℕ) (l : List ℕ) → 1 ≤ v → all_digits l ≡ true → decimal (read_on v l) ≡ decimal v ++ l
unfolding read_on all_digits
written_on v [] h e = sym (append-nil (decimal v))
written_on v (d ∷ l) h e =
    let low = leb-true 48 d (and_l (leb 48 d) (leb d 57) (and_l (is_digit d) (all_digits l) e)) in
    let high = leb-true d 57 (and_r (leb 48 d) (leb d 57) (and_l (is_digit d) (all_digits l) e)) in
    let next = 10 * v + (d - 48) in
    let tenth : next / 10 ≡ v = omega arith in
    let last : 48 + next % 10 ≡ d = omega arith in
    let grown : decimal next ≡ decimal v ++ (d ∷ []) = decimal_more next (omega arith) ∙ rw (tenth, last) in
    written_on next l (omega arith) (and_r (is_digit d) (all_digits l) e) ∙ ap (λ (k : List ℕ). k ++ l) grown ∙ append_assoc (decimal v) (d ∷ []) l

-- several bytes do not start with a zero
led_not : (b n : ℕ) → eqb (suc n) 0 || not (eqb b 48) ≡ true → b ≡ 48 → ⊥
led_not b n e z = absurd (true≢false (sym e ∙ rw (ne_eqb (suc n) 0 (λ q. absurd (omega arith)), eq-eqb b 48 z)))

-- THE NUMBERS of a text are the numbers as they are written, and no other bytes
pub number_written : (l : List ℕ) → is_number l ≡ true → decimal (read_on 0 l) ≡ l
unfolding starts_well all_digits read_on
number_written [] e = absurd (true≢false (sym e))
number_written (b ∷ []) e =
    let digit = and_l (is_digit b) true e in
    let low = leb-true 48 b (and_l (leb 48 b) (leb b 57) digit) in
    let high = leb-true b 57 (and_r (leb 48 b) (leb b 57) digit) in
    let value : 10 * 0 + (b - 48) ≡ b - 48 = omega arith in
    let back : 48 + (b - 48) ≡ b = omega arith in
    rw (value, decimal_digit (b - 48) (omega arith), back)
number_written (b ∷ c ∷ l) e =
    let all = and_r (starts_well (b ∷ c ∷ l)) (all_digits (b ∷ c ∷ l)) e in
    let digit = and_l (is_digit b) (all_digits (c ∷ l)) all in
    let low = leb-true 48 b (and_l (leb 48 b) (leb b 57) digit) in
    let high = leb-true b 57 (and_r (leb 48 b) (leb b 57) digit) in
    let other : b ≡ 48 → ⊥ = λ z. led_not b (length l) (and_l (starts_well (b ∷ c ∷ l)) (all_digits (b ∷ c ∷ l)) e) z in
    let value : 10 * 0 + (b - 48) ≡ b - 48 = omega arith in
    let back : 48 + (b - 48) ≡ b = omega arith in
    rw value (written_on (b - 48) (c ∷ l) (omega arith) (and_r (is_digit b) (all_digits (c ∷ l)) all) ∙ rw (decimal_digit (b - 48) (omega arith), back))
