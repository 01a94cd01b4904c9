-- What is so of a half that is not damaged, slot by slot; where it has room, and which slot is free.
use mathlib.Core.Path.{◌≡◌, refl, sym, ap, ◌∙◌}
use mathlib.Core.Bool.{Bool, true, false, cond, ◌&&◌, ◌||◌, or-true, true≢false}
use mathlib.Core.Logic.{◌⊎◌, inl, inr, ⊎_elim, ⊎_map, ⊎_swap}
use mathlib.Core.List.{List, ◌++◌}
use Prim.Native.Nat.{ℕ, zero, suc, ◌+◌, ◌*◌, ◌^◌, ◌≤◌, ◌<◌, suc-le-suc}
use native.Mathlib.Nat.{add_assoc, mul-suc, one-le-pow}
use native.Mathlib.Numerals.{add-one}
use native.Mathlib.Omega.{arith}
use lib.Dec.{eqb, leb, eqb-suc-zero}
use lib.ListN.{length, take, drop}
use lib.Seq.{take-add, drop-drop}
use borrow.Author.Tests.{leb-true, le-leb, eqb-true, eq-eqb, ne_eqb}
use Rattle.modes.specs.Words.{each, lowest_mode}
use Rattle.modes.proofs.Bools.{and_l, and_r}
use Rattle.modes.proofs.Digits.{lt_or_ge}
use Rattle.modes.proofs.Sets.{each_all, each_at}
use Rattle.modes.proofs.LowestMode.{lowest_has}
use Rattle.lent.specs.Bytes.{num, num_at}
use Rattle.lent.proofs.Numbers.{num_append}
use Rattle.slots.specs.Half.{place_of, length_of, is_free, is_sound, apart, meets_none, is_whole, free_slot, is_room, gap_for}
use Rattle.slots.specs.Damage.{Beside, Sound, Parted, Undamaged}

-- ---- what holds at each number below k: beside each_at and each_all of modes.proofs.Sets

pub each_none : (f : ℕ → Bool) → each 0 f ≡ true
unfolding each
each_none f = refl

-- one number more
pub each_step : (k : ℕ) (f : ℕ → Bool) → each (k + 1) f ≡ each k f && f k
unfolding each
each_step k f = rw (add-one k)

pub each_not : (k : ℕ) (f : ℕ → Bool) (i : ℕ) → i < k → f i ≡ false → each k f ≡ false
each_not k f i l e = go (each k f) refl
  where
    go : (b : Bool) → each k f ≡ b → b ≡ false
    go true t = sym (each_at k f t i l) ∙ e
    go false t = refl

-- ---- the lowest number below k

pub lowest_le : (k : ℕ) (u : ℕ → Bool) → lowest_mode k u ≤ k
unfolding lowest_mode
lowest_le zero u = omega arith
lowest_le (suc k) u = go (u 0) (lowest_le k (λ p. u (suc p)))
  where
    rest : ℕ
    rest = lowest_mode k (λ p. u (suc p))

    go : (b : Bool) → rest ≤ k → cond b 0 (suc rest) ≤ suc k
    go true h = omega arith
    go false h = suc-le-suc h

-- where there is none it is k
pub lowest_all : (k : ℕ) (u : ℕ → Bool) → ((q : ℕ) → q < k → u q ≡ false) → lowest_mode k u ≡ k
unfolding lowest_mode
lowest_all zero u h = refl
lowest_all (suc k) u h = rw (h 0 (omega arith), lowest_all k (λ p. u (suc p)) (λ q l. h (suc q) (suc-le-suc l)))

-- ---- stretches of bytes that do not meet

or_either : (a b : Bool) → a || b ≡ true → (a ≡ true) ⊎ (b ≡ true)
or_either true b e = inl refl
or_either false b e = inr e

module _ (p n q m : ℕ) where
  pub apart_either : apart p n q m ≡ true → Beside p n q m
  unfolding apart
  apart_either e = ⊎_map (leb-true _ _) (leb-true _ _) (or_either (leb (p + n) q) (leb (q + m) p) e)

  pub either_apart : Beside p n q m → apart p n q m ≡ true
  unfolding apart
  either_apart (inl h) = rw (le-leb (p + n) q h)
  either_apart (inr h) = rw (le-leb (q + m) p h) (or-true (leb (p + n) q))

-- n bytes from p on and the records of the slots below k
module _ (h : List ℕ) (k p n : ℕ) where
  pub clear_is : meets_none h k p n ≡ true → (i : ℕ) → i < k → Beside (place_of h i) (length_of h i) p n
  unfolding meets_none
  clear_is e i l = apart_either _ _ _ _ (each_at k _ e i l)

  pub clear_so : ((i : ℕ) → i < k → Beside (place_of h i) (length_of h i) p n) → meets_none h k p n ≡ true
  unfolding meets_none
  clear_so c = each_all k _ (λ i l. either_apart _ _ _ _ (c i l))

-- ---- a number is zero if both its parts are

sum_zero : (a c b : ℕ) → 0 < c → eqb (a + c * b) 0 ≡ eqb a 0 && eqb b 0
sum_zero zero c zero h = eq-eqb (0 + c * 0) 0 (omega arith)
sum_zero zero c (suc b) h = rw (eqb-suc-zero b) (ne_eqb (0 + c * suc b) 0 (λ e. omega (arith, mul-suc c b)))
sum_zero (suc a) c b h = rw (eqb-suc-zero a) (ne_eqb (suc a + c * b) 0 (λ e. omega arith))

num_zero : (a b : List ℕ) → eqb (num (a ++ b)) 0 ≡ eqb (num a) 0 && eqb (num b) 0
num_zero a b = rw num_append (sum_zero (num a) (256 ^ length a) (num b) (one-le-pow (length a) 256 (omega arith)))

pub zero_parts : (n m : ℕ) (l : List ℕ) (o : ℕ) → eqb (num_at (n + m) l o) 0 ≡ eqb (num_at n l o) 0 && eqb (num_at m l (o + n)) 0
unfolding num_at
zero_parts n m l o = rw (take-add n m (drop o l), drop-drop n o l) (num_zero (take n (drop o l)) (take m (drop (o + n) l)))

-- ---- the entry of a slot

module _ (h : List ℕ) (i : ℕ) where
  pub sound_is : is_sound h i ≡ true → Sound h i
  unfolding is_sound
  sound_is e =
      let most = and_r (leb 32 (length_of h i)) _ e in
      let rest = and_r (leb 512 (place_of h i)) _ most in
      record {
        long = leb-true _ _ (and_l _ _ e);
        past = leb-true _ _ (and_l _ _ most);
        inside = leb-true _ _ (and_l _ _ rest);
        zero = eqb-true _ _ (and_r (leb (place_of h i + length_of h i) 32768) _ rest);
      }

  pub sound_so : Sound h i → is_sound h i ≡ true
  unfolding is_sound
  sound_so s = rw (le-leb _ _ s.long, le-leb _ _ s.past, le-leb _ _ s.inside) (eq-eqb _ _ s.zero)

  -- an entry is free if it names no place and no length, and its other bytes are zero
  pub free_parts : is_free h i ≡ eqb (place_of h i) 0 && (eqb (length_of h i) 0 && eqb (num_at 24 h (32 * i + 8)) 0)
  free_parts =
      zero_parts 4 28 h (32 * i)
      ∙ ap (λ (b : Bool). eqb (place_of h i) 0 && b) (zero_parts 4 24 h (32 * i + 4) ∙ rw (add_assoc (32 * i) 4 4))

  pub free_names : is_free h i ≡ true → (place_of h i ≡ 0) × (length_of h i ≡ 0)
  free_names e =
      let parts = sym free_parts ∙ e in
      (eqb-true _ _ (and_l _ _ parts), eqb-true _ _ (and_l _ _ (and_r (eqb (place_of h i) 0) _ parts)))

  pub sound_used : Sound h i → is_free h i ≡ false
  sound_used s = go (is_free h i) refl
    where
      go : (b : Bool) → is_free h i ≡ b → b ≡ false
      go true f = absurd (omega (arith, free_names f))
      go false f = refl

-- ---- the half

-- what the half asks of the entry of slot i
abbrev pub is_right : List ℕ → ℕ → Bool
is_right h i = (is_free h i || is_sound h i) && meets_none h i (place_of h i) (length_of h i)

module _ (h : List ℕ) where
  pub whole_undamaged : is_whole h ≡ true → Undamaged h
  unfolding is_whole
  whole_undamaged e = record { right = λ i l f. sound_is h i (used f (and_l (is_free h i || is_sound h i) _ (at i l))); apart = others }
    where
      at : (i : ℕ) → i < 16 → is_right h i ≡ true
      at = each_at 16 (is_right h) e

      used : {a b : Bool} → a ≡ false → a || b ≡ true → b ≡ true
      used {a} {b} f e = ⊎_elim (λ t. absurd (true≢false (sym t ∙ f))) (λ t. t) (or_either a b e)

      before : (i j : ℕ) → i < j → j < 16 → Parted h i j
      before i j b l = clear_is h j _ _ (and_r (is_free h j || is_sound h j) _ (at j l)) i b

      others : (i j : ℕ) → i < 16 → j < 16 → (i ≡ j → ⊥) → Parted h i j
      others i j l k n = ⊎_elim (λ b. before i j b k) (λ b. ⊎_swap (before j i (omega arith) l)) (lt_or_ge i j)

  pub undamaged_whole : Undamaged h → is_whole h ≡ true
  unfolding is_whole
  undamaged_whole w =
      each_all 16 (is_right h) (λ i l. rw (free_or_sound i l (is_free h i) refl) (clear_so h i _ _ (λ j k. w.apart j i (omega arith) l (λ e. omega arith))))
    where
      free_or_sound : (i : ℕ) → i < 16 → (b : Bool) → is_free h i ≡ b → is_free h i || is_sound h i ≡ true
      free_or_sound i l true e = rw e
      free_or_sound i l false e = rw (e, sound_so h i (w.right i l e))

  -- what an entry names lies within the half, also where it is free
  pub inside_half : is_whole h ≡ true → (i : ℕ) → i < 16 → place_of h i + length_of h i ≤ 32768
  inside_half e i l = go (is_free h i) refl
    where
      go : (b : Bool) → is_free h i ≡ b → place_of h i + length_of h i ≤ 32768
      go true f = omega (arith, free_names h i f)
      go false f = ((whole_undamaged e).right i l f).inside

-- ---- a free slot, and room

pub slot_free : (h : List ℕ) → free_slot h < 16 → is_free h (free_slot h) ≡ true
slot_free h = lowest_has 16 (is_free h)

-- n bytes from p on lie past the entries, within the half, and are no record's
pub record Room (h : List ℕ) (n p : ℕ) : Type 0 where
  pub past : 512 ≤ p
  pub inside : p + n ≤ 32768
  pub clear : (i : ℕ) → i < 16 → Beside (place_of h i) (length_of h i) p n

module _ (h : List ℕ) (n p : ℕ) where
  pub room_is : is_room h n p ≡ true → Room h n p
  unfolding is_room
  room_is e =
      let rest = and_r (leb 512 p) _ e in
      record {
        past = leb-true _ _ (and_l _ _ e);
        inside = leb-true _ _ (and_l _ _ rest);
        clear = clear_is h 16 p n (and_r (leb (p + n) 32768) _ rest);
      }

  pub room_so : Room h n p → is_room h n p ≡ true
  unfolding is_room
  room_so r = rw (le-leb _ _ r.past, le-leb _ _ r.inside) (clear_so h 16 p n r.clear)

pub gap_room : (h : List ℕ) (n : ℕ) → gap_for h n < 32768 → Room h n (gap_for h n)
gap_room h n l = room_is h n (gap_for h n) (lowest_has 32768 (is_room h n) l)
