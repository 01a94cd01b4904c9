-- No two answers, and no two halves after a call, meet a promise of this crate.
use mathlib.Core.Path.{◌≡◌, refl, ap}
use mathlib.Core.Bool.{Bool}
use mathlib.Core.List.{List}
use Prim.Native.Nat.{ℕ, ◌^◌, ◌<◌}
use native.Mathlib.Omega.{arith}
use Rattle.std.proofs.Common.{Option, None, Some, MatchOption}
use Rattle.modes.proofs.Unique.{one}
use Rattle.slots.specs.Half.{place_of, length_of, is_free, is_whole, free_slot, gap_for, holding, without}

pub one_place : (h : List ℕ) (i r s : ℕ) → (r ≡ place_of h i) × (r < 2 ^ 32) → (s ≡ place_of h i) × (s < 2 ^ 32) → r ≡ s
one_place h i r s p q = one p.0 q.0

pub one_length : (h : List ℕ) (i r s : ℕ) → (r ≡ length_of h i) × (r < 2 ^ 32) → (s ≡ length_of h i) × (s < 2 ^ 32) → r ≡ s
one_length h i r s p q = one p.0 q.0

pub one_free : (h : List ℕ) (i : ℕ) (r s : Bool) → r ≡ is_free h i → s ≡ is_free h i → r ≡ s
one_free h i r s = one

pub one_whole : (h : List ℕ) (r s : Bool) → r ≡ is_whole h → s ≡ is_whole h → r ≡ s
one_whole h r s = one

-- the lowest number i below k, or none where i is k
pub one_lowest : (i k : ℕ) (r s : Option ℕ) → MatchOption r (i ≡ k) (λ j. (j ≡ i) × (j < k)) → MatchOption s (i ≡ k) (λ j. (j ≡ i) × (j < k)) → r ≡ s
one_lowest i k None None p q = refl
one_lowest i k None (Some b) p q = absurd (omega arith)
one_lowest i k (Some a) None p q = absurd (omega arith)
one_lowest i k (Some a) (Some b) p q = ap Some (one p.0 q.0)

pub one_slot : (h : List ℕ) (r s : Option ℕ)
    → MatchOption r (free_slot h ≡ 16) (λ i. (i ≡ free_slot h) × (i < 16))
    → MatchOption s (free_slot h ≡ 16) (λ i. (i ≡ free_slot h) × (i < 16))
    → r ≡ s
one_slot h = one_lowest (free_slot h) 16

pub one_gap : (h : List ℕ) (n : ℕ) (r s : Option ℕ)
    → MatchOption r (gap_for h n ≡ 32768) (λ p. (p ≡ gap_for h n) × (p < 32768))
    → MatchOption s (gap_for h n ≡ 32768) (λ p. (p ≡ gap_for h n) × (p < 32768))
    → r ≡ s
one_gap h n = one_lowest (gap_for h n) 32768

pub one_hold : (h : List ℕ) (i p : ℕ) (a k l : List ℕ) → k ≡ holding h i p a → l ≡ holding h i p a → k ≡ l
one_hold h i p a k l = one

pub one_release : (h : List ℕ) (i p n : ℕ) (k l : List ℕ) → k ≡ without h i p n → l ≡ without h i p n → k ≡ l
one_release h i p n k l = one
