-- What number 1 leaves: the header's own numbers, the length, and the bounds on modes and terms.
use mathlib.Core.Path.{◌≡◌, refl, sym, ap, ◌∙◌}
use mathlib.Core.Bool.{Bool, true, false, cond, ◌&&◌, and-false, true≢false}
use mathlib.Core.List.{List}
use Prim.Native.Nat.{ℕ, ◌≤◌, ◌<◌}
use native.Mathlib.Omega.{arith}
use lib.Dec.{eqb, leb}
use lib.ListN.{length, get_or}
use borrow.Author.Tests.{le-leb, lt-leb, eqb-true, leb-true}
use Rattle.modes.specs.Spaces.{space_of, is_made}
use Rattle.std.specs.Prelude.{Some, None}
use Rattle.modes.proofs.Bools.{and_l, and_r}
use Rattle.record.specs.Numbers.{numbers, same_numbers}
use Rattle.record.specs.Layout.{fields, modes_of, count_of, laid_out, record_length, total_of, good_header}
use Rattle.record.proofs.Numbers.{same_numbers_is}

pub record Laid (l : List ℕ) : Type 0 where
  pub size : length l ≡ record_length (count_of l)
  pub some : 1 ≤ modes_of l
  pub most : modes_of l ≤ 64
  pub few : count_of l ≤ 2048
  pub header : numbers 4 l 0 8 ≡ fields (modes_of l) (count_of l)

pub made : (m : ℕ) → is_made (space_of m) ≡ true → (1 ≤ m) × (m ≤ 64)
made m e =
    let both = go (leb 1 m && leb m 64) e in (leb-true 1 m (and_l (leb 1 m) (leb m 64) both), leb-true m 64 (and_r (leb 1 m) (leb m 64) both))
  where
    go : (b : Bool) → is_made (cond b (Some (record { count = m })) None) ≡ true → b ≡ true
    go true q = refl
    go false q = q

-- what a conjunction of three says
all_three : (a b c : Bool) → a && (b && c) ≡ true → (a ≡ true) × (b ≡ true) × (c ≡ true)
all_three true true c e = (refl, refl, e)
all_three true false c e = absurd (true≢false (sym e))
all_three false b c e = absurd (true≢false (sym e))

pub laid : (l : List ℕ) → laid_out l ≡ true → Laid l
unfolding laid_out numbers
laid l e =
    let same = same_numbers (numbers 4 l 0 8) (fields (modes_of l) (count_of l)) in
    let three = all_three (is_made (space_of (modes_of l))) (leb (count_of l) 2048) same (and_l (good_header l) (eqb (length l) (total_of l)) e) in
    let space = made (modes_of l) three.0 in
    let header = same_numbers_is _ _ three.2 in
    record {
      size = eqb-true _ _ (and_r (good_header l) (eqb (length l) (total_of l)) e) ∙ ap (λ (xs : List ℕ). get_or xs 6 0) header;
      some = space.0;
      most = space.1;
      few = leb-true _ _ three.1;
      header = header;
    }

module _ (l : List ℕ) where
  pub no_space : is_made (space_of (modes_of l)) ≡ false → false ≡ good_header l
  no_space h = rw h

  pub too_many : 2048 < count_of l → false ≡ good_header l
  too_many h = simp (lt-leb _ _ h, and-false)

  pub header_decides : (b : Bool) → is_made (space_of (modes_of l)) ≡ true → count_of l ≤ 2048
      → b ≡ same_numbers (numbers 4 l 0 8) (fields (modes_of l) (count_of l)) → b ≡ good_header l
  header_decides b y few same = rw (y, le-leb _ _ few) same

  -- a good header tells 32 bytes at least
  pub too_short : length l < 32 → false ≡ laid_out l
  too_short h = go (laid_out l) refl
    where
      go : (b : Bool) → laid_out l ≡ b → false ≡ b
      go true e = absurd (omega (arith, (laid l e).size))
      go false e = refl

  pub bad_header : good_header l ≡ false → false ≡ laid_out l
  unfolding laid_out
  bad_header h = rw h

  pub length_decides : (n : ℕ) → good_header l ≡ true → n ≡ total_of l → eqb (length l) n ≡ laid_out l
  unfolding laid_out
  length_decides n h e = rw (h, e)
