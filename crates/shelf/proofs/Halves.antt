-- The halves of a shelf: each is read back as it was stored, and a store in one keeps the other.
use mathlib.Core.Path.{◌≡◌, refl, sym, ap, ◌∙◌}
use mathlib.Core.Bool.{Bool, true, false}
use mathlib.Core.Logic.{inl, inr, ⊎_elim}
use mathlib.Core.List.{List, ◌++◌}
use Prim.Native.Nat.{ℕ, ◌+◌, ◌*◌, ◌-◌, ◌≤◌, ◌<◌}
use native.Mathlib.Omega.{arith}
use lib.Dec.{eqb, ltb}
use lib.ListN.{length, take, drop, length-drop, take-append-drop, replicate-append-replicate}
use lib.Seq.{take_at, drop_at, drop-drop, length-take-le}
use borrow.Author.Tests.{ltb-true, eqb-true, lt-ltb, eq-eqb}
use Rattle.modes.specs.Answers.{none}
use Rattle.modes.specs.Refusals.{need, or_else}
use Rattle.modes.proofs.Digits.{lt_or_ge}
use Rattle.modes.proofs.Refusals.{neither, needed}
use Rattle.lent.specs.Bytes.{put, zeros}
use Rattle.lent.proofs.Puts.{length_put}
use Rattle.slots.proofs.Parts.{part_kept, part_put, length_zeros}
use Rattle.shelf.specs.Requests.{no_such_party, damaged_half}
use Rattle.shelf.specs.Steps.{half_of, shelf_refusal}

-- what is shown where a test holds, and where it does not, is shown
pub by_test : {P : Type 0} (b : Bool) → (b ≡ true → P) → (b ≡ false → P) → P
by_test true holds fails = holds refl
by_test false holds fails = fails refl

-- ---- n entries of a list, from o on

module _ (l : List ℕ) (o n : ℕ) (fits : o + n ≤ length l) where
  part_size : length (take n (drop o l)) ≡ n
  part_size = length-take-le n (drop o l) (rw length-drop (omega arith))

  -- stored where they stand, they change nothing
  part_in_place : put l o (take n (drop o l)) ≡ l
  unfolding put
  part_in_place = rw (part_size, ← drop-drop n o l, take-append-drop n (drop o l)) (take-append-drop o l)

-- of zeros they are zeros
part_of_zeros : (k o n : ℕ) → o + n ≤ k → take n (drop o (zeros k)) ≡ zeros n
part_of_zeros k o n h =
    let rest = k - (o + n) in
    let all : o + (n + rest) ≡ k = omega arith in
    let split : zeros o ++ (zeros n ++ zeros rest) ≡ zeros k = simp (replicate-append-replicate, all) in
    ap (λ (l : List ℕ). take n (drop o l)) (sym split)
    ∙ ap (take n) (drop_at (zeros o) (zeros n ++ zeros rest) o (length_zeros o))
    ∙ take_at (zeros n) (zeros rest) n (length_zeros n)

-- ---- the halves

-- the half of a cleared shelf
pub half_zeros : (p n : ℕ) → p < 2 → n ≡ 65536 → half_of p (zeros n) ≡ zeros 32768
unfolding half_of
half_zeros p n low whole = part_of_zeros n (32768 * p) 32768 (omega arith)

module _ (p : ℕ) (s : List ℕ) (low : p < 2) (whole : length s ≡ 65536) where
  pub half_size : length (half_of p s) ≡ 32768
  unfolding half_of
  half_size = part_size s (32768 * p) 32768 (omega arith)

  -- a half stored where it stands changes nothing
  pub put_same : put s (32768 * p) (half_of p s) ≡ s
  unfolding half_of
  put_same = part_in_place s (32768 * p) 32768 (omega arith)

  module _ (h : List ℕ) (size : length h ≡ 32768) where
    fits : 32768 * p + length h ≤ length s
    fits = omega arith

    pub put_length : length (put s (32768 * p) h) ≡ 65536
    put_length = length_put s (32768 * p) h fits ∙ whole

    -- a half that is stored is read back
    pub half_put : half_of p (put s (32768 * p) h) ≡ h
    unfolding half_of
    half_put = rw size at (part_put s (32768 * p) h (omega arith))

    -- and every other is kept
    pub half_other : (q : ℕ) → (q ≡ p → ⊥) → half_of q (put s (32768 * p) h) ≡ half_of q s
    unfolding half_of
    half_other q other =
        part_kept s (32768 * p) h fits (32768 * q) 32768 (⊎_elim (λ k. inl (omega arith)) (λ k. inr (omega arith)) (lt_or_ge q p))

-- ---- what refuses a shelf

-- a party that is one of the two, and a shelf of its length, are not refused
pub shelf_taken : (p n : ℕ) → p < 2 → n ≡ 65536 → shelf_refusal p n ≡ none
unfolding shelf_refusal or_else
shelf_taken p n low whole = rw (lt-ltb p 2 low, eq-eqb n 65536 whole)

-- and whatever is not refused is such a party and such a shelf
pub taken_shelf : (p n : ℕ) → shelf_refusal p n ≡ none → (p < 2) × (n ≡ 65536)
unfolding shelf_refusal
taken_shelf p n z =
    let both = neither (need (ltb p 2) no_such_party) (need (eqb n 65536) damaged_half) z in
    let party = needed (ltb p 2) no_such_party both.0 in
    let size = needed (eqb n 65536) damaged_half both.1 in
    (ltb-true p 2 party, eqb-true n 65536 size)
