-- The lowest free slot and the lowest place with room: when there is none, and where a gap starts.
use mathlib.Core.Path.{◌≡◌, refl, sym, ◌∙◌}
use mathlib.Core.Bool.{Bool, true, false, not, true≢false}
use mathlib.Core.Logic.{inl, inr, ⊎_elim}
use mathlib.Core.List.{List}
use Prim.Native.Nat.{ℕ, ◌+◌, ◌-◌, ◌≤◌, ◌<◌}
use native.Mathlib.Omega.{arith}
use borrow.Author.Tests.{not-true, not-false}
use Rattle.modes.proofs.Digits.{lt_or_ge}
use Rattle.modes.proofs.LowestMode.{lowest_none, lowest_has}
use Rattle.slots.specs.Half.{place_of, length_of, is_free, apart, lowest, free_slot, is_room, gap_for}
use Rattle.slots.specs.Gaps.{Ends, Starts}
use Rattle.slots.proofs.Wholes.{lowest_all, apart_either, free_names, Room, room_so, gap_room}
use Rattle.slots.proofs.Gaps.{meeting, high}

-- ---- free slots

module _ (h : List ℕ) where
  pub slots_below : (j : ℕ) → j < free_slot h → is_free h j ≡ false
  slots_below = lowest_none 16 (is_free h)

  -- there is none exactly if each is used
  pub none_free : 16 ≤ free_slot h → (i : ℕ) → i < 16 → is_free h i ≡ false
  none_free l i k = slots_below i (omega arith)

  pub all_used : ((i : ℕ) → i < 16 → is_free h i ≡ false) → 16 ≤ free_slot h
  all_used u = omega (arith, lowest_all 16 (is_free h) u)

  pub some_free : (i : ℕ) → i < 16 → is_free h i ≡ true → free_slot h < 16
  some_free i l f = ⊎_elim (λ k. k) (λ k. absurd (true≢false (sym f ∙ none_free k i l))) (lt_or_ge (free_slot h) 16)

-- ---- places with room for n bytes

module _ (h : List ℕ) (n : ℕ) where
  pub rooms_below : (q : ℕ) → q < gap_for h n → is_room h n q ≡ false
  rooms_below = lowest_none 32768 (is_room h n)

  -- there is none, for some bytes at all, exactly if no place has room
  pub no_room : 0 < n → 32768 ≤ gap_for h n → (q : ℕ) → is_room h n q ≡ false
  no_room some l q = ⊎_elim (λ k. rooms_below q (omega arith)) (λ k. high h n q (omega arith)) (lt_or_ge q 32768)

  pub no_gap_is : ((q : ℕ) → is_room h n q ≡ false) → 32768 ≤ gap_for h n
  no_gap_is none = omega (arith, lowest_all 32768 (is_room h n) (λ q l. none q))

-- ---- a gap starts past the entries, or past a record

-- n bytes have room from p on, and not from one place before it
module _ (h : List ℕ) (n p : ℕ) (room : Room h n p) (some : 512 < p) (none : is_room h n (p - 1) ≡ false) where
  -- is slot i's record met there?
  met : ℕ → Bool
  met i = not (apart (place_of h i) (length_of h i) (p - 1) n)

  -- then it ends at p
  met_ends : (i : ℕ) → i < 16 → met i ≡ true → Ends h p i
  unfolding met
  met_ends i l e = record { slot = l; used = used (is_free h i) refl; ends = ⊎_elim (λ k. omega (arith, both)) (λ k. absurd (omega (arith, both))) (room.clear i l) }
    where
      both : (p - 1 < place_of h i + length_of h i) × (place_of h i < p - 1 + n)
      both = meeting _ _ _ _ (not-true _ e)

      used : (b : Bool) → is_free h i ≡ b → b ≡ false
      used true f = absurd (omega (arith, both, free_names h i f))
      used false f = refl

  -- and one is met
  one_met : lowest 16 met < 16
  unfolding met
  one_met = ⊎_elim (λ l. l) (λ l. absurd (true≢false (sym (clear l) ∙ none))) (lt_or_ge (lowest 16 met) 16)
    where
      clear : 16 ≤ lowest 16 met → is_room h n (p - 1) ≡ true
      clear l =
          room_so h n (p - 1)
          (record {
            past = omega arith;
            inside = omega (arith, room.inside);
            clear = λ i k. apart_either _ _ _ _ (not-false _ (lowest_none 16 met i (omega arith)));
          })

  past_one : (i : ℕ) × Ends h p i
  past_one = (lowest 16 met, met_ends (lowest 16 met) one_met (lowest_has 16 met one_met))

-- THE LOWEST PLACE WITH ROOM is the start of a gap: it is 512, or the record of a used slot ends there
pub gap_starts : (h : List ℕ) (n : ℕ) → gap_for h n < 32768 → Starts h (gap_for h n)
gap_starts h n l =
    let room = gap_room h n l in
    ⊎_elim (λ k. inr (past_one h n (gap_for h n) room k (rooms_below h n (gap_for h n - 1) (omega arith)))) (λ k. inl (omega (arith, room.past)))
    (lt_or_ge 512 (gap_for h n))
