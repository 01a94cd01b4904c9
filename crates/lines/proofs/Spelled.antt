-- Numbers, coefficients and ladders as they are written read as what was written.
use mathlib.Core.Path.{◌≡◌, refl}
use mathlib.Core.Bool.{true, false, ◌||◌}
use mathlib.Core.List.{List, [], ◌∷◌, ◌++◌}
use Prim.Native.Nat.{ℕ, ◌-◌, ◌<◌}
use native.Mathlib.Omega.{arith}
use lib.Dec.{eqb}
use lib.IntN.{pos, neg_ℤ}
use lib.ListN.{length, length-append}
use lib.Seq.{get_or_at, take_at}
use borrow.Author.Tests.{ne_eqb}
use Rattle.modes.specs.Every.{Every, none, more}
use Rattle.modes.proofs.Every.{every_implies}
use Rattle.decimals.specs.Decimal.{decimal, field}
use Rattle.decimals.specs.Numbers.{is_number}
use Rattle.decimals.proofs.Reading.{decimal_reads}
use Rattle.decimals.proofs.Written.{Digit, decimal_digits, decimal_number}
use Rattle.lines.specs.Grammar.{minus, creates, annihilates, kind_of, mode_of, is_ladder, ladder_of, is_minus, magnitude_of, coefficient_of}
use Rattle.lines.proofs.Joined.{Lacks}

-- a byte below the digits is none of them
pub number_lacks : (b n : ℕ) → b < 48 → Lacks b (decimal n)
number_lacks b n h = every_implies (decimal n) (λ d k e. absurd (omega (arith, k.0))) (decimal_digits n)

-- ---- a ladder: a number, and the byte after it

module _ (p : List ℕ) (e : ℕ) where
  seam : length p ≡ length (p ++ (e ∷ [])) - 1
  seam = omega (arith, length-append p (e ∷ []))

  kind_is : kind_of (p ++ (e ∷ [])) ≡ e
  kind_is = get_or_at p e [] 0 (length (p ++ (e ∷ [])) - 1) seam

  mode_is : mode_of (p ++ (e ∷ [])) ≡ p
  mode_is = take_at p (e ∷ []) (length (p ++ (e ∷ [])) - 1) seam

pub ladder_read_is : (n kind : ℕ) → ladder_of (field n kind) ≡ record { needs = eqb kind annihilates; mode = n }
unfolding ladder_of
ladder_read_is n kind = rw (kind_is (decimal n) kind, mode_is (decimal n) kind, decimal_reads n)

pub ladder_good : (n kind : ℕ) → (eqb kind creates || eqb kind annihilates) ≡ true → is_ladder (field n kind) ≡ true
unfolding is_ladder
ladder_good n kind h = rw (kind_is (decimal n) kind, mode_is (decimal n) kind, decimal_number n) h

-- ---- a coefficient: a number, or a minus and a number

plain : (l : List ℕ) → Every Digit l → is_minus l ≡ false
plain [] none = refl
plain (d ∷ l) (more h hs) = ne_eqb d minus (λ e. absurd (omega (arith, h.0)))

plain_magnitude : (n : ℕ) → magnitude_of (decimal n) ≡ decimal n
unfolding magnitude_of
plain_magnitude n = rw (plain (decimal n) (decimal_digits n))

pub plain_read : (n : ℕ) → coefficient_of (decimal n) ≡ pos n
unfolding coefficient_of
plain_read n = rw (plain_magnitude n, plain (decimal n) (decimal_digits n), decimal_reads n)

pub plain_good : (n : ℕ) → is_number (magnitude_of (decimal n)) ≡ true
plain_good n = rw (plain_magnitude n) (decimal_number n)

pub minus_read : (n : ℕ) → coefficient_of (minus ∷ decimal n) ≡ neg_ℤ (pos n)
unfolding coefficient_of magnitude_of
minus_read n = rw (decimal_reads n)

pub minus_good : (n : ℕ) → is_number (magnitude_of (minus ∷ decimal n)) ≡ true
unfolding magnitude_of
minus_good n = decimal_number n
