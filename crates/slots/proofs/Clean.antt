-- The bytes of a half that are in no record: once they are zero they stay zero.
use mathlib.Core.Path.{◌≡◌, refl, sym, ap, ◌∙◌}
use mathlib.Core.Bool.{Bool, true, false, true≢false}
use mathlib.Core.Logic.{◌⊎◌, inl, inr, ⊎_elim}
use mathlib.Core.List.{List}
use Prim.Native.Nat.{ℕ, ◌+◌, ◌-◌, ◌≤◌, ◌<◌}
use native.Mathlib.Omega.{arith}
use lib.Dec.{eqb}
use lib.ListN.{get_or, take, drop, get_or-replicate}
use lib.Seq.{get_or-take, get_or-drop}
use borrow.Author.Tests.{eqb-true, eqb-false}
use Rattle.modes.proofs.Digits.{lt_or_ge}
use Rattle.lent.specs.Bytes.{zeros}
use Rattle.slots.specs.Half.{place_of, length_of, is_free, entry_bytes}
use Rattle.slots.specs.Gaps.{Outside, InNone, Clean}
use Rattle.slots.proofs.Kept.{Same, same_free, Change, kept, bytes_here, held_place, held_length, held_used}

pub zeros_clean : (n : ℕ) → n ≡ 32768 → Clean (zeros n)
zeros_clean n e = record { zero = λ k l m none. get_or-replicate n k 0 0 (omega arith) }

-- a slot that is the same names the same bytes
same_outside : {h h' : List ℕ} {j k : ℕ} → Same h h' j → Outside k (place_of h' j) (length_of h' j) → Outside k (place_of h j) (length_of h j)
same_outside s o = rw (s.place, s.long) at o

-- a byte of a stretch that is known
byte_in : (h x : List ℕ) (p n k : ℕ) → take n (drop p h) ≡ x → p ≤ k → k < p + n → get_or h k 0 ≡ get_or x (k - p) 0
byte_in h x p n k e l m =
    let at : p + (k - p) ≡ k = omega arith in
    sym
    (ap (λ (y : List ℕ). get_or y (k - p) 0) (sym e)
    ∙ get_or-take n (drop p h) (k - p) 0 (omega arith)
    ∙ get_or-drop p h (k - p) 0
    ∙ ap (λ (z : ℕ). get_or h z 0) at)

-- a byte is outside a stretch, or in it
outside_or_in : (k p n : ℕ) → Outside k p n ⊎ ((p ≤ k) × (k < p + n))
outside_or_in k p n = ⊎_elim (λ l. inl (inl l)) (λ l. ⊎_elim (λ m. inr (l, m)) (λ m. inl (inr m)) (lt_or_ge k (p + n))) (lt_or_ge k p)

-- a record that comes to a free slot leaves what is clean clean
pub held_clean : {h h' : List ℕ} {i p n : ℕ} {a : List ℕ} → Change h h' i p n a (entry_bytes p n) → 32 ≤ n → is_free h i ≡ true → Clean h → Clean h'
held_clean {h} {h'} {i} {p} {n} c long free clean = record { zero = λ k l m none. (kept c).byte k l (beside k none) ∙ clean.zero k l m (before k none) }
  where
    beside : (k : ℕ) → InNone h' k → Outside k p n
    beside k none = rw (held_place c, held_length c) at (none i c.slot (held_used c long))

    before : (k : ℕ) → InNone h' k → InNone h k
    before k none j l u =
        let s = (kept c).others j l (λ e. true≢false (sym free ∙ ap (is_free h) (sym e) ∙ u)) in
        same_outside s (none j l (same_free s ∙ u))

-- and so does one that goes
pub dropped_clean : {h h' : List ℕ} {i : ℕ} → Change h h' i (place_of h i) (length_of h i) (zeros (length_of h i)) (zeros 32) → Clean h → Clean h'
dropped_clean {h} {h'} {i} c clean =
    record {
      zero = λ k l m none. ⊎_elim (λ out. (kept c).byte k l out ∙ clean.zero k l m (λ j b u. before k none out j b u (eqb j i) refl)) (within k)
          (outside_or_in k (place_of h i) (length_of h i));
    }
  where
    within : (k : ℕ) → (place_of h i ≤ k) × (k < place_of h i + length_of h i) → get_or h' k 0 ≡ 0
    within k b =
        byte_in h' (zeros (length_of h i)) (place_of h i) (length_of h i) k (bytes_here c) b.0 b.1
        ∙ get_or-replicate (length_of h i) (k - place_of h i) 0 0 (omega arith)

    before : (k : ℕ) → InNone h' k → Outside k (place_of h i) (length_of h i) → (j : ℕ) → j < 16 → is_free h j ≡ false → (b : Bool) → eqb j i ≡ b
        → Outside k (place_of h j) (length_of h j)
    before k none out j l u true e = rw (eqb-true j i e) out
    before k none out j l u false e = let s = (kept c).others j l (eqb-false j i e) in same_outside s (none j l (same_free s ∙ u))
