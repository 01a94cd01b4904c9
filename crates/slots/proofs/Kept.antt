-- What a half keeps where a record is held or dropped: every other slot with its record, and that it is whole.
use mathlib.Core.Path.{◌≡◌, refl, sym, ap, ◌∙◌}
use mathlib.Core.Bool.{Bool, true, false, true≢false}
use mathlib.Core.Logic.{◌⊎◌, inl, inr, ⊎_elim, ⊎_swap}
use mathlib.Core.List.{List, [], ◌++◌}
use Prim.Native.Nat.{ℕ, ◌+◌, ◌*◌, ◌^◌, ◌≤◌, ◌<◌}
use native.Mathlib.Omega.{arith}
use lib.Dec.{eqb}
use lib.ListN.{length, get_or, take, drop, length-append}
use borrow.Author.Tests.{eqb-true, eqb-false, eq-eqb}
use Rattle.modes.proofs.Digits.{lt_or_ge}
use Rattle.lent.specs.Bytes.{bytes, num, num_at, zeros, put}
use Rattle.lent.proofs.Numbers.{length_bytes, num_bytes}
use Rattle.lent.proofs.NumbersAt.{num_at_is}
use Rattle.lent.proofs.Puts.{length_put}
use Rattle.slots.specs.Half.{place_of, length_of, is_free, is_whole, entry_bytes, holding, without}
use Rattle.slots.specs.Damage.{Beside, Sound, Parted}
use Rattle.slots.proofs.Wholes.{Room, free_names, sound_used, whole_undamaged, undamaged_whole}
use Rattle.slots.proofs.Parts.{num_second, part_kept, byte_kept, num_within, part_put, length_zeros, num_zeros}

-- ---- a slot that is the same in h and h'

pub record Same (h h' : List ℕ) (j : ℕ) : Type 0 where
  pub entry : num_at 32 h' (32 * j) ≡ num_at 32 h (32 * j)
  pub place : place_of h' j ≡ place_of h j
  pub long : length_of h' j ≡ length_of h j
  pub rest : num_at 24 h' (32 * j + 8) ≡ num_at 24 h (32 * j + 8)
  pub bytes : is_free h j ≡ false → take (length_of h j) (drop (place_of h j) h') ≡ take (length_of h j) (drop (place_of h j) h)

module _ {h h' : List ℕ} {j : ℕ} (s : Same h h' j) where
  pub same_free : is_free h' j ≡ is_free h j
  same_free = ap (λ (x : ℕ). eqb x 0) s.entry

  same_sound : Sound h j → Sound h' j
  same_sound o =
      record {
        long = rw s.long o.long;
        past = rw s.place o.past;
        inside = rw (s.place, s.long) o.inside;
        zero = s.rest ∙ o.zero;
      }

-- ---- h' is h with n other bytes from p on, and another entry of slot i

-- what stays: every other slot, and every other byte past the entries
pub record Kept (h h' : List ℕ) (i p n : ℕ) : Type 0 where
  pub size : length h' ≡ 32768
  pub others : (j : ℕ) → j < 16 → (j ≡ i → ⊥) → Same h h' j
  pub byte : (k : ℕ) → 512 ≤ k → (k < p) ⊎ (p + n ≤ k) → get_or h' k 0 ≡ get_or h k 0

-- the bytes are x and the entry is e; h is whole, and no other slot's record meets these bytes
pub record Change (h h' : List ℕ) (i p n : ℕ) (x e : List ℕ) : Type 0 where
  pub made : h' ≡ put (put h p x) (32 * i) e
  pub size : length h ≡ 32768
  pub whole : is_whole h ≡ true
  pub slot : i < 16
  pub long : length x ≡ n
  pub entry : length e ≡ 32
  pub past : 512 ≤ p
  pub inside : p + n ≤ 32768
  pub clear : (j : ℕ) → j < 16 → (j ≡ i → ⊥) → Beside (place_of h j) (length_of h j) p n

module _ {h h' : List ℕ} {i p n : ℕ} {x e : List ℕ} (c : Change h h' i p n x e) where
  fits : p + length x ≤ length h
  fits = omega arith

  length_first : length (put h p x) ≡ 32768
  length_first = length_put h p x fits ∙ c.size

  entry_fits : 32 * i + length e ≤ length (put h p x)
  entry_fits = omega (arith, length_first)

  -- a stretch that meets neither the n bytes nor the entry
  part_same : (q m : ℕ) → Beside q m p n → Beside q m (32 * i) 32 → take m (drop q h') ≡ take m (drop q h)
  part_same q m a b =
      rw c.made
      (part_kept (put h p x) (32 * i) e entry_fits q m (rw c.entry b) ∙ part_kept h p x fits q m (rw c.long a))

  -- a byte that is neither one of the n nor the entry's
  pub byte_same : (k : ℕ) → (k < p) ⊎ (p + n ≤ k) → (k < 32 * i) ⊎ (32 * i + 32 ≤ k) → get_or h' k 0 ≡ get_or h k 0
  byte_same k a b =
      rw c.made
      (byte_kept (put h p x) (32 * i) e entry_fits k (rw c.entry b) ∙ byte_kept h p x fits k (rw c.long a))

  -- a number in another entry
  entry_same : (j : ℕ) → j < 16 → (j ≡ i → ⊥) → (q m : ℕ) → 32 * j ≤ q → q + m ≤ 32 * j + 32 → num_at m h' q ≡ num_at m h q
  unfolding num_at
  entry_same j l o q m a b =
      ap num (part_same q m (inl (omega arith)) (⊎_elim (λ k. inl (omega arith)) (λ k. inr (omega arith)) (lt_or_ge j i)))

  others_same : (j : ℕ) → j < 16 → (j ≡ i → ⊥) → Same h h' j
  others_same j l o =
      record {
        entry = entry_same j l o (32 * j) 32 (omega arith) (omega arith);
        place = entry_same j l o (32 * j) 4 (omega arith) (omega arith);
        long = entry_same j l o (32 * j + 4) 4 (omega arith) (omega arith);
        rest = entry_same j l o (32 * j + 8) 24 (omega arith) (omega arith);
        bytes = λ u. part_same _ _ (c.clear j l o) (inr (omega (arith, ((whole_undamaged h c.whole).right j l u).past)));
      }

  pub kept : Kept h h' i p n
  kept =
      record {
        size = ap length c.made ∙ length_put (put h p x) (32 * i) e entry_fits ∙ length_first;
        others = others_same;
        byte = λ k a b. byte_same k b (inr (omega arith));
      }

  -- what is new
  pub bytes_here : take n (drop p h') ≡ x
  bytes_here =
      rw c.made
      (part_kept (put h p x) (32 * i) e entry_fits p n (inr (rw c.entry (omega arith)))
      ∙ (rw c.long at (part_put h p x (omega arith))))

  pub entry_here : take 32 (drop (32 * i) h') ≡ e
  entry_here = rw c.made (rw c.entry at (part_put (put h p x) (32 * i) e (omega (arith, entry_fits))))

  -- a number in the new entry
  entry_number : (d m q : ℕ) → 32 * i + d ≡ q → d + m ≤ 32 → num_at m h' q ≡ num_at m e d
  entry_number d m q a b =
      rw (c.made, ← a) (num_within (put h p x) (32 * i) e (omega (arith, entry_fits)) d m (rw c.entry b))

  -- h' is whole if the new entry, where it is used, is sound, and what it names is no other slot's
  whole_again : (is_free h' i ≡ false → Sound h' i) → ((j : ℕ) → j < 16 → (j ≡ i → ⊥) → Parted h' j i) → is_whole h' ≡ true
  whole_again sound clear =
      undamaged_whole h'
      (record {
        right = λ j l. right j l (eqb j i) refl;
        apart = λ j k l m. parted j k l m (eqb j i) (eqb k i) refl refl;
      })
    where
      right : (j : ℕ) → j < 16 → (b : Bool) → eqb j i ≡ b → is_free h' j ≡ false → Sound h' j
      right j l true a f = let e : j ≡ i = eqb-true j i a in rw e (sound (rw e at f))
      right j l false a f =
          let s = others_same j l (eqb-false j i a) in
          same_sound s ((whole_undamaged h c.whole).right j l (sym (same_free s) ∙ f))

      parted : (j k : ℕ) → j < 16 → k < 16 → (a b : Bool) → eqb j i ≡ a → eqb k i ≡ b → (j ≡ k → ⊥) → Parted h' j k
      parted j k l m true true a b o = absurd (o (eqb-true j i a ∙ sym (eqb-true k i b)))
      parted j k l m true false a b o = rw (eqb-true j i a) (⊎_swap (clear k m (eqb-false k i b)))
      parted j k l m false true a b o = rw (eqb-true k i b) (clear j l (eqb-false j i a))
      parted j k l m false false a b o =
          let s = others_same j l (eqb-false j i a) in
          let t = others_same k m (eqb-false k i b) in
          rw (s.place, s.long, t.place, t.long) ((whole_undamaged h c.whole).apart j k l m o)

-- ---- a record held

-- an entry as it is written, and what it names
length_entry : (p n : ℕ) → length (entry_bytes p n) ≡ 32
length_entry p n = simp (length-append, length_bytes, length_zeros)

entry_place : (p n : ℕ) → p < 256 ^ 4 → num_at 4 (entry_bytes p n) 0 ≡ p
entry_place p n h = num_at_is [] (bytes 4 p) (bytes 4 n ++ zeros 24) 0 4 refl (length_bytes 4 p) ∙ num_bytes 4 p h

entry_length : (p n : ℕ) → n < 256 ^ 4 → num_at 4 (entry_bytes p n) 4 ≡ n
entry_length p n h = num_at_is (bytes 4 p) (bytes 4 n) (zeros 24) 4 4 (length_bytes 4 p) (length_bytes 4 n) ∙ num_bytes 4 n h

entry_rest : (p n : ℕ) → num_at 24 (entry_bytes p n) 8 ≡ 0
entry_rest p n =
    num_second (bytes 4 p) (bytes 4 n ++ zeros 24) 4 4 24 (length_bytes 4 p)
    ∙ num_second (bytes 4 n) (zeros 24) 4 0 24 (length_bytes 4 n)
    ∙ num_zeros 24 24 0

-- a stands where there was room, and slot i names it
pub holding_change : (h : List ℕ) (i p : ℕ) (a : List ℕ) {h' : List ℕ} → h' ≡ holding h i p a → length h ≡ 32768 → is_whole h ≡ true
    → i < 16 → Room h (length a) p
    → Change h h' i p (length a) a (entry_bytes p (length a))
holding_change h i p a e s w l r =
    record {
      made = e;
      size = s;
      whole = w;
      slot = l;
      long = refl;
      entry = length_entry p (length a);
      past = r.past;
      inside = r.inside;
      clear = λ j k o. r.clear j k;
    }

module _ {h h' : List ℕ} {i p n : ℕ} {a : List ℕ} (c : Change h h' i p n a (entry_bytes p n)) where
  pub held_place : place_of h' i ≡ p
  held_place = entry_number c 0 4 (32 * i) (omega arith) (omega arith) ∙ entry_place p n (omega arith)

  pub held_length : length_of h' i ≡ n
  held_length = entry_number c 4 4 (32 * i + 4) refl (omega arith) ∙ entry_length p n (omega arith)

  pub held_bytes : take (length_of h' i) (drop (place_of h' i) h') ≡ a
  held_bytes = rw (held_place, held_length) (bytes_here c)

  module _ (long : 32 ≤ n) where
    held_sound : Sound h' i
    held_sound =
        record {
          long = rw held_length long;
          past = rw held_place c.past;
          inside = rw (held_place, held_length) c.inside;
          zero = entry_number c 8 24 (32 * i + 8) refl (omega arith) ∙ entry_rest p n;
        }

    pub held_used : is_free h' i ≡ false
    held_used = sound_used h' i held_sound

    pub held_whole : is_whole h' ≡ true
    held_whole =
        whole_again c (λ f. held_sound)
        (λ j l o. let s = others_same c j l o in rw (s.place, s.long, held_place, held_length) (c.clear j l o))

-- ---- a record dropped

-- the bytes of slot i's record are zero, and so is its entry
pub without_change : (h : List ℕ) (i : ℕ) {h' : List ℕ} → h' ≡ without h i (place_of h i) (length_of h i) → length h ≡ 32768 → is_whole h ≡ true
    → i < 16 → is_free h i ≡ false
    → Change h h' i (place_of h i) (length_of h i) (zeros (length_of h i)) (zeros 32)
without_change h i e s w l f =
    let k = whole_undamaged h w in
    let o = k.right i l f in
    record {
      made = e;
      size = s;
      whole = w;
      slot = l;
      long = length_zeros (length_of h i);
      entry = length_zeros 32;
      past = o.past;
      inside = o.inside;
      clear = λ j m n. k.apart j i m l n;
    }

module _ {h h' : List ℕ} {i p n : ℕ} {x : List ℕ} (c : Change h h' i p n x (zeros 32)) where
  pub dropped_free : is_free h' i ≡ true
  dropped_free = eq-eqb _ _ (entry_number c 0 32 (32 * i) (omega arith) (omega arith) ∙ num_zeros 32 32 0)

  pub dropped_whole : is_whole h' ≡ true
  dropped_whole =
      whole_again c (λ f. absurd (true≢false (sym dropped_free ∙ f)))
      (λ j l o. let names = free_names h' i dropped_free in inr (omega arith))

-- ---- a half of which every slot is free

free_whole : (h : List ℕ) → ((i : ℕ) → i < 16 → is_free h i ≡ true) → is_whole h ≡ true
free_whole h f =
    undamaged_whole h
    (record {
      right = λ i l u. absurd (true≢false (sym (f i l) ∙ u));
      apart = λ i j l k o. let names = free_names h i (f i l) in inl (omega arith);
    })

pub zeros_whole : (n : ℕ) → is_whole (zeros n) ≡ true
zeros_whole n = free_whole (zeros n) (λ i l. eq-eqb _ _ (num_zeros 32 n (32 * i)))
