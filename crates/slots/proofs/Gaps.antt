-- The search for room: from one place to the next, past each record that is met.
use mathlib.Core.Path.{◌≡◌, refl, sym}
use mathlib.Core.Bool.{Bool, true, false, ◌&&◌, ◌||◌, true≢false}
use mathlib.Core.Logic.{⊎_elim}
use mathlib.Core.List.{List}
use Prim.Native.Nat.{ℕ, ◌+◌, ◌-◌, ◌≤◌, ◌<◌}
use native.Mathlib.Omega.{arith}
use lib.Dec.{leb}
use borrow.Author.Tests.{lt-leb, leb-false}
use Rattle.modes.proofs.Digits.{lt_or_ge}
use Rattle.modes.proofs.LowestMode.{lowest_one}
use Rattle.slots.specs.Half.{place_of, length_of, apart, meets_none, is_whole, is_room, gap_for}
use Rattle.slots.specs.Gaps.{Met}
use Rattle.slots.proofs.Wholes.{each_not, lowest_all, clear_is, inside_half, Room, room_so}

-- two stretches that meet
or_neither : (a b : Bool) → a || b ≡ false → (a ≡ false) × (b ≡ false)
or_neither true b e = absurd (true≢false e)
or_neither false b e = (refl, e)

pub meeting : (p n q m : ℕ) → apart p n q m ≡ false → (q < p + n) × (p < q + m)
unfolding apart
meeting p n q m e =
    let both = or_neither (leb (p + n) q) (leb (q + m) p) e in
    (leb-false _ _ both.0, leb-false _ _ both.1)

pub meets : (p n q m : ℕ) → q < p + n → p < q + m → apart p n q m ≡ false
unfolding apart
meets p n q m l r = rw (lt-leb _ _ l, lt-leb _ _ r)

-- what shuts a place out
third_false : (a b c : Bool) → c ≡ false → a && (b && c) ≡ false
third_false true true c e = e
third_false true false c e = refl
third_false false b c e = refl

second_false : (a b c : Bool) → b ≡ false → a && (b && c) ≡ false
second_false true b c e = rw e
second_false false b c e = refl

module _ (h : List ℕ) (n q : ℕ) where
  pub low : q < 512 → is_room h n q ≡ false
  unfolding is_room
  low l = rw (lt-leb 512 q l)

  pub high : 32768 < q + n → is_room h n q ≡ false
  unfolding is_room
  high l = second_false (leb 512 q) (leb (q + n) 32768) _ (lt-leb (q + n) 32768 l)

  pub taken : (i : ℕ) → i < 16 → place_of h i < q + n → q < place_of h i + length_of h i → is_room h n q ≡ false
  unfolding is_room meets_none
  taken i l a b = third_false (leb 512 q) (leb (q + n) 32768) _ (each_not 16 _ i l (meets _ _ _ _ b a))

-- no place below p has room
pub record Searching (h : List ℕ) (n p : ℕ) : Type 0 where
  pub past : 512 ≤ p
  pub inside : p ≤ 32768
  pub none : (q : ℕ) → q < p → is_room h n q ≡ false

module _ (h : List ℕ) (n : ℕ) where
  pub search_starts : Searching h n 512
  search_starts = record { past = omega arith; inside = omega arith; none = λ q l. low h n q l }

  module _ (p : ℕ) (s : Searching h n p) where
    -- past a record that is met
    module _ (e : ℕ) (m : Met h p n e) where
      both : (p < place_of h m.slot + length_of h m.slot) × (place_of h m.slot < p + n)
      both = meeting _ _ _ _ m.meets

      pub search_jumps : is_whole h ≡ true → Searching h n e
      search_jumps whole =
          record {
            past = omega (arith, s.past, both.0, m.ends);
            inside = omega (arith, inside_half h whole m.slot m.low, m.ends);
            none = λ q k. ⊎_elim (s.none q) (λ l. taken h n q m.slot m.low (omega (arith, both.1)) (omega (arith, m.ends))) (lt_or_ge q p);
          }

      -- which cannot go on for ever
      pub search_less : is_whole h ≡ true → 32768 - e < 32768 - p
      search_less whole = omega (arith, both.0, m.ends, inside_half h whole m.slot m.low)

    pub search_finds : meets_none h 16 p n ≡ true → p + n ≤ 32768 → 0 < n → p ≡ gap_for h n
    search_finds clear fits pos =
        let room : Room h n p = record { past = s.past; inside = fits; clear = clear_is h 16 p n clear } in
        sym (lowest_one 32768 (is_room h n) p (omega arith) (room_so h n p room) s.none)

    pub search_fails : 32768 < p + n → gap_for h n ≡ 32768
    search_fails far = lowest_all 32768 (is_room h n) (λ q k. ⊎_elim (s.none q) (λ m. high h n q (omega arith)) (lt_or_ge q p))
