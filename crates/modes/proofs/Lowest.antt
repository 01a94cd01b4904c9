-- A word without its lowest mode, `r & (r - 1)`: the turn of a loop that takes one mode after the other.
use mathlib.Core.Path.{◌≡◌, refl, sym, ap, ap₂, ◌∙◌}
use mathlib.Core.Bool.{Bool, true, false, cond, ◌&&◌, and-true}
use mathlib.Core.Logic.{◌⊎◌, inl, inr}
use Prim.Native.Nat.{ℕ, zero, suc, ◌+◌, ◌-◌, ◌*◌, ◌/◌, ◌%◌, ◌^◌, ◌≤◌, ◌<◌, min}
use native.Mathlib.Nat.{le_refl, mod-lt, not-suc-le-zero, zero-lt-suc, add_comm, add-zero, lt_irrefl, le_of_suc-le-suc, div-add-mod', pow-suc}
use native.Mathlib.Omega.{arith}
use lib.Dec.{eqb}
use lib.Arith.{bin_ind}
use lib.Pow.{pow_pos, pow_mono}
use lib.Bits.{bit_and, and_step, and_self, and_block, xor_disjoint, and_mask}
use lib.Count.{ones}
use borrow.Author.Tests.{ne_eqb, eq-eqb}
use Rattle.modes.specs.Bools.{◌⊕◌}
use Rattle.modes.specs.Words.{Modes, bit}
use Rattle.modes.specs.Counts.{count, exchanges}
use Rattle.modes.proofs.Bools.{⊕_false, false_⊕}
use Rattle.modes.proofs.Digits.{lt_or_ge, by_bit, bit_of_xor, bit_pow, bit_of_and, bit_half, bit_zero, bit_none}
use Rattle.modes.proofs.Counts.{count_ones}

-- ---- one mode of v at a time

-- v has the mode p, and v' is v without it
pub record Less (p : ℕ) (v v' : Modes) : Type 0 where
  pub has : v p ≡ true
  pub lost : v' p ≡ false
  pub rest : (i : ℕ) → (i ≡ p → ⊥) → v i ≡ v' i

exchanges_same : (k p : ℕ) (u v v' : Modes) → Less p v v' → k ≤ p → exchanges k u v ≡ exchanges k u v'
unfolding exchanges
exchanges_same zero p u v v' h l = refl
exchanges_same (suc j) p u v v' h l =
    ap₂ (λ (x : ℕ) (b : Bool). x + cond b (count j u) 0) (exchanges_same j p u v v' h (omega arith)) (h.rest j (λ e. omega arith))

pub exchanges_less : (k p : ℕ) (u v v' : Modes) → Less p v v' → p < k → exchanges k u v ≡ exchanges k u v' + count p u
unfolding exchanges
exchanges_less zero p u v v' h l = absurd (not-suc-le-zero l)
exchanges_less (suc j) p u v v' h l = go (λ m. exchanges_less j p u v v' h m) (lt_or_ge p j)
  where
    go : (p < j → exchanges j u v ≡ exchanges j u v' + count p u) → (p < j) ⊎ (j ≤ p)
        → exchanges j u v + cond (v j) (count j u) 0 ≡ (exchanges j u v' + cond (v' j) (count j u) 0) + count p u
    go rec (inl m) = rw (rec m, h.rest j (λ e. omega arith)) (omega arith)
    go rec (inr m) = let e : j ≡ p = omega arith in rw (e, h.has, h.lost, exchanges_same p p u v v' h (le_refl p)) (omega arith)

-- ---- `r & (r - 1)`: a number without its lowest digit

pub record Lowest (r : ℕ) : Type 0 where
  pub at : ℕ
  pub sum : bit_and r (r - 1) + 2 ^ at ≡ r
  pub apart : bit_and (bit_and r (r - 1)) (2 ^ at) ≡ 0
  pub clean : (i : ℕ) → i < at → bit r i ≡ false

pub lowest : (r : ℕ) → 0 < r → Lowest r
lowest = bin_ind (λ (r : ℕ). 0 < r → Lowest r) (λ h. absurd (lt_irrefl 0 h)) step
  where
    clear : (r x y d : ℕ) → (r - 1) / 2 ≡ x → r % 2 ≡ y → (r - 1) % 2 ≡ d → bit_and r (r - 1) ≡ bit_and (r / 2) x * 2 + min y d
    clear r x y d p q s = and_step r (r - 1) ∙ rw (p, q, s)

    odds : (r : ℕ) → r ≡ r / 2 * 2 + 1 → Lowest r
    odds r e =
        let c : bit_and r (r - 1) ≡ r / 2 * 2 =
        clear r (r / 2) 1 0 (omega arith) (omega arith) (omega arith) ∙ ap (λ (x : ℕ). x * 2 + 0) (and_self (r / 2)) ∙ add-zero (r / 2 * 2) in
        record { at = 0; sum = omega arith; apart = ap (λ (x : ℕ). bit_and x 1) c ∙ and_mask (r / 2 * 2) 1 ∙ omega arith; clean = λ i l. absurd (not-suc-le-zero l) }

    below : (r : ℕ) → r % 2 ≡ 0 → (h : Lowest (r / 2)) (i : ℕ) → i < suc h.at → bit r i ≡ false
    below r e h zero l = bit_zero r ∙ ap (λ (x : ℕ). eqb x 1) e
    below r e h (suc i) l = sym (bit_half r i) ∙ h.clean i (le_of_suc-le-suc l)

    even : (r : ℕ) → r ≡ r / 2 * 2 + 0 → Lowest (r / 2) → 0 < r → Lowest r
    even r e i h =
        let c : bit_and r (r - 1) ≡ bit_and (r / 2) (r / 2 - 1) * 2 + 0 = clear r (r / 2 - 1) 0 1 (omega arith) (omega arith) (omega arith) in
        record {
          at = suc i.at;
          sum = omega (arith, pow-suc 2 i.at, i.sum);
          apart =
              ap₂ bit_and c (pow-suc 2 i.at ∙ sym (add-zero (2 ^ i.at * 2))) ∙ and_block 1 (bit_and (r / 2) (r / 2 - 1)) (2 ^ i.at) 0 0 (zero-lt-suc 1) (zero-lt-suc 1)
              ∙ ap (λ (x : ℕ). x * 2 + 0) i.apart;
          clean = below r (omega arith) i;
        }

    step : (r : ℕ) → (0 < r / 2 → Lowest (r / 2)) → 0 < r → Lowest r
    step r ih h = by_bit (λ (d : ℕ). r ≡ r / 2 * 2 + d → Lowest r) (λ e. even r e (ih (omega arith)) h) (odds r) (r % 2) (mod-lt r (zero-lt-suc 1)) (sym (div-add-mod' r 2))

-- without its lowest mode
pub lowest_less : (r : ℕ) (l : Lowest r) → Less l.at (bit r) (bit (bit_and r (r - 1)))
lowest_less r l = record {
  has = bits l.at ∙ ap₂ (λ (x y : Bool). x ⊕ y) gone (eq-eqb l.at l.at refl) ∙ false_⊕ true;
  lost = gone;
  rest = λ i n. bits i ∙ ap (λ (x : Bool). bit (bit_and r (r - 1)) i ⊕ x) (ne_eqb i l.at n) ∙ ⊕_false (bit (bit_and r (r - 1)) i);
}
  where
    bits : (i : ℕ) → bit r i ≡ bit (bit_and r (r - 1)) i ⊕ eqb i l.at
    bits i =
        ap (λ (x : ℕ). bit x i) (sym l.sum ∙ sym (xor_disjoint (bit_and r (r - 1)) (2 ^ l.at) l.apart))
        ∙ bit_of_xor (bit_and r (r - 1)) (2 ^ l.at) i ∙ ap (λ (x : Bool). bit (bit_and r (r - 1)) i ⊕ x) (bit_pow l.at i)

    gone : bit (bit_and r (r - 1)) l.at ≡ false
    gone =
        sym (and-true (bit (bit_and r (r - 1)) l.at))
        ∙ ap (λ (x : Bool). bit (bit_and r (r - 1)) l.at && x) (sym (bit_pow l.at l.at ∙ eq-eqb l.at l.at refl))
        ∙ sym (bit_of_and (bit_and r (r - 1)) (2 ^ l.at) l.at) ∙ ap (λ (x : ℕ). bit x l.at) l.apart ∙ bit_none l.at

-- ---- a turn of a loop over a word of k bits

pub lowest_small : (k r : ℕ) (l : Lowest r) → r < 2 ^ k → l.at < k
lowest_small k r l h = go (lt_or_ge l.at k)
  where
    go : (l.at < k) ⊎ (k ≤ l.at) → l.at < k
    go (inl m) = m
    go (inr m) = absurd (omega (arith, pow_mono m, l.sum))

pub less_lt : (r : ℕ) → 0 < r → bit_and r (r - 1) < r
less_lt r h = let l = lowest r h in omega (arith, pow_pos l.at, l.sum)

-- the lowest mode itself
pub lowest_is : (r : ℕ) (l : Lowest r) → r - bit_and r (r - 1) ≡ 2 ^ l.at
lowest_is r l = omega (arith, l.sum)

-- the modes of w below the lowest mode of r, and the exchange count over the rest of r
pub turn : (k w r : ℕ) → 0 < r → r < 2 ^ k
    → ones (bit_and w ((r - bit_and r (r - 1)) - 1)) + exchanges k (bit w) (bit (bit_and r (r - 1))) ≡ exchanges k (bit w) (bit r)
turn k w r h b =
    ap (λ (x : ℕ). ones (bit_and w (x - 1)) + exchanges k (bit w) (bit (bit_and r (r - 1)))) (lowest_is r l)
    ∙ ap (λ (x : ℕ). ones x + exchanges k (bit w) (bit (bit_and r (r - 1)))) (and_mask w l.at)
    ∙ ap (λ (x : ℕ). x + exchanges k (bit w) (bit (bit_and r (r - 1)))) (count_ones l.at w)
    ∙ add_comm (count l.at (bit w)) (exchanges k (bit w) (bit (bit_and r (r - 1))))
    ∙ sym (exchanges_less k l.at (bit w) (bit r) (bit (bit_and r (r - 1))) (lowest_less r l) (lowest_small k r l b))
  where
    l : Lowest r
    l = lowest r h

-- nothing left
pub exchanges_end : (k : ℕ) (u : Modes) (r : ℕ) → r ≡ 0 → exchanges k u (bit r) ≡ 0
unfolding exchanges
exchanges_end zero u r e = refl
exchanges_end (suc p) u r e = rw (exchanges_end p u r e, ap (λ (x : ℕ). bit x p) e ∙ bit_none p)

-- one mode fewer
pub count_less : (k p : ℕ) (v v' : Modes) → Less p v v' → p < k → count k v ≡ suc (count k v')
unfolding count
count_less zero p v v' h l = absurd (not-suc-le-zero l)
count_less (suc j) p v v' h l = go (λ m. count_less j p v v' h m) (lt_or_ge p j)
  where
    low : (k : ℕ) → k ≤ p → count k v ≡ count k v'
    low zero m = refl
    low (suc i) m = ap₂ (λ (x : ℕ) (b : Bool). x + cond b 1 0) (low i (omega arith)) (h.rest i (λ e. omega arith))

    go : (p < j → count j v ≡ suc (count j v')) → (p < j) ⊎ (j ≤ p) → count j v + cond (v j) 1 0 ≡ suc (count j v' + cond (v' j) 1 0)
    go rec (inl m) = rw (rec m, h.rest j (λ e. omega arith)) (omega arith)
    go rec (inr m) = let e : j ≡ p = omega arith in rw (e, h.has, h.lost, low p (le_refl p)) (omega arith)
