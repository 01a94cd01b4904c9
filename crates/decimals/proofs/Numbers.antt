-- Numbers read byte by byte: what a byte adds, and that a ceiling on the way changes nothing below it.
use mathlib.Core.Path.{◌≡◌, refl, sym, ap, ◌∙◌}
use mathlib.Core.Bool.{Bool, true, false, cond, not, ◌&&◌}
use mathlib.Core.List.{List, [], ◌∷◌}
use Prim.Native.Nat.{ℕ, suc, ◌+◌, ◌*◌, ◌-◌, ◌^◌, ◌≤◌, ◌<◌}
use native.Mathlib.Numerals.{add-one}
use native.Mathlib.Omega.{arith}
use lib.Dec.{eqb}
use lib.ListN.{length, get_or, drop, drop_of_length-le}
use lib.Seq.{drop-cons}
use borrow.Author.Tests.{ne_eqb}
use Rattle.decimals.specs.Decimal.{read_on}
use Rattle.decimals.specs.Numbers.{is_digit, all_digits, starts_well, is_number}
use Rattle.decimals.specs.Ceiling.{up_to, number_in}
use Rattle.std.specs.Prelude.{Some, None}

pub starts_short : (l : List ℕ) → length l < 2 → eqb (length l) 1 ≡ starts_well l
unfolding starts_well
starts_short [] h = refl
starts_short (b ∷ []) h = refl
starts_short (b ∷ c ∷ l) h = absurd (omega arith)

pub starts_long : (l : List ℕ) → 2 ≤ length l → not (eqb (get_or l 0 0) 48) ≡ starts_well l
unfolding starts_well
starts_long [] h = absurd (omega arith)
starts_long (b ∷ []) h = absurd (omega arith)
starts_long (b ∷ c ∷ l) h = rw (ne_eqb (suc (length l)) 0 (λ e. omega arith))

-- what is read on depends on the number so far only as far as the ceiling
pub read_capped : (l : List ℕ) (x y : ℕ) → up_to x ≡ up_to y → up_to (read_on x l) ≡ up_to (read_on y l)
unfolding read_on
read_capped [] x y e = e
read_capped (d ∷ l) x y e = read_capped l (10 * x + (d - 48)) (10 * y + (d - 48)) (omega arith)

pub drop_next : (l : List ℕ) (i : ℕ) → i < length l → drop i l ≡ get_or l i 0 ∷ drop (i + 1) l
drop_next l i h = rw (drop-cons l i 0 h, add-one)

-- nothing is only where the test fails
pub cond_none : {A : Type 0} (b : Bool) (x : A) → None ≡ cond b (Some x) None → b ≡ false
cond_none true x e = absurd cc
cond_none false x e = refl

-- of the number that l makes, the bytes from i on are to come after v
pub record Reading (l : List ℕ) (v i : ℕ) : Type 0 where
  pub inside : i ≤ length l
  pub small : v ≤ 2 ^ 60 + 1
  pub value : up_to (read_on 0 l) ≡ up_to (read_on v (drop i l))

module _ (l : List ℕ) (v i : ℕ) (g : Reading l v i) where
  -- a byte more
  pub reading_goes : i < length l → (r : ℕ) → r ≡ up_to (10 * v + (get_or l i 0 - 48)) → Reading l r (i + 1)
  unfolding read_on
  reading_goes h r e = record {
    inside = omega arith;
    small = omega arith;
    value = g.value ∙ ap (λ (k : List ℕ). up_to (read_on v k)) (drop_next l i h)
        ∙ read_capped (drop (i + 1) l) (10 * v + (get_or l i 0 - 48)) r (omega arith);
  }

  pub reading_ends : length l ≤ i → v ≡ up_to (read_on 0 l)
  unfolding read_on
  reading_ends h = sym (g.value ∙ ap (λ (k : List ℕ). up_to (read_on v k)) (drop_of_length-le l h) ∙ omega (arith, g.small))

-- l is a number if the bytes from i on are digits
abbrev pub Good : List ℕ → ℕ → Type 0
Good l i = is_number l ≡ all_digits (drop i l)

module _ (l : List ℕ) (i : ℕ) (g : Good l i) where
  module _ (h : i < length l) where
    next_good : is_number l ≡ is_digit (get_or l i 0) && all_digits (drop (i + 1) l)
    unfolding all_digits
    next_good = g ∙ ap all_digits (drop_next l i h)

    pub good_goes : is_digit (get_or l i 0) ≡ true → Good l (i + 1)
    good_goes e = next_good ∙ ap (λ (b : Bool). b && all_digits (drop (i + 1) l)) e

    -- a byte that is no digit
    pub no_number : is_digit (get_or l i 0) ≡ false → None ≡ number_in l
    no_number e = rw (next_good, e)

  pub all_read : length l ≤ i → {v : ℕ} → v ≡ up_to (read_on 0 l) → Some v ≡ number_in l
  unfolding all_digits
  all_read h e = rw (g, drop_of_length-le l h, e)
