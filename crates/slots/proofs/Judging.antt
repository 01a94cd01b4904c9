-- How the tests of a half come out, entry by entry.
use mathlib.Core.Path.{◌≡◌, refl, sym, ap, ◌∙◌}
use mathlib.Core.Bool.{Bool, true, false, ◌&&◌}
use mathlib.Core.List.{List}
use Prim.Native.Nat.{ℕ, ◌+◌, ◌<◌}
use native.Mathlib.Nat.{add_assoc}
use lib.Dec.{eqb}
use Rattle.modes.specs.Words.{each}
use Rattle.lent.specs.Bytes.{num_at, word_at}
use Rattle.slots.specs.Half.{place_of, length_of, apart, meets_none, is_whole}
use Rattle.slots.proofs.Wholes.{each_none, each_step, each_not, zero_parts, is_right}

-- ---- zeros, word by word

pub three_words : (h : List ℕ) (o : ℕ) → eqb (num_at 24 h o) 0 ≡ eqb (word_at h o) 0 && (eqb (word_at h (o + 8)) 0 && eqb (word_at h (o + 16)) 0)
three_words h o =
    zero_parts 8 16 h o ∙ ap (λ (b : Bool). eqb (word_at h o) 0 && b) (zero_parts 8 8 h (o + 8) ∙ rw (add_assoc o 8 8))

-- ---- the records of the slots below k

module _ (h : List ℕ) (p n : ℕ) where
  pub none_met_yet : meets_none h 0 p n ≡ true
  unfolding meets_none
  none_met_yet = each_none _

  pub one_more_apart : (i : ℕ) → meets_none h i p n ≡ true → apart (place_of h i) (length_of h i) p n ≡ true → meets_none h (i + 1) p n ≡ true
  unfolding meets_none
  one_more_apart i e t = each_step i _ ∙ rw (e, t)

  pub one_met : (k i : ℕ) → i < k → apart (place_of h i) (length_of h i) p n ≡ false → false ≡ meets_none h k p n
  unfolding meets_none
  one_met k i l t = sym (each_not k _ i l t)

-- ---- the half

module _ (h : List ℕ) where
  pub all_right : each 16 (is_right h) ≡ is_whole h
  unfolding is_whole
  all_right = refl

  module _ (i : ℕ) where
    pub right_next : each i (is_right h) ≡ true → is_right h i ≡ true → each (i + 1) (is_right h) ≡ true
    right_next e r = each_step i (is_right h) ∙ rw (e, r)

    pub one_wrong : i < 16 → is_right h i ≡ false → false ≡ is_whole h
    one_wrong l w = sym (sym all_right ∙ each_not 16 (is_right h) i l w)
