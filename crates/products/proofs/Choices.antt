-- The sets of branching modes: how many there are, that no two are the same, and that the walk finds them by the lowest mode.
use mathlib.Core.Path.{◌≡◌, refl, sym, ap, ap₂, ◌∙◌, subst}
use mathlib.Core.Bool.{Bool, true, false, cond, true≢false}
use mathlib.Core.List.{List, [], ◌∷◌, ◌++◌, map}
use mathlib.Core.Logic.{◌⊎◌, inl, inr}
use Prim.Native.Nat.{ℕ, zero, suc, ◌+◌, ◌-◌, ◌*◌, ◌^◌, ◌≤◌, ◌<◌, zero-le}
use native.Mathlib.Nat.{pow-suc, zero-add, add-zero, add-suc, suc-add, add_assoc, lt-suc_self, le_refl, eq-or-lt_of_le}
use native.Mathlib.Numerals.{one-add}
use native.Mathlib.Omega.{arith}
use lib.ListN.{length, length-append}
use lib.Bits.{bit_xor, bit_and}
use borrow.Author.Tests.{ne_eqb, eq-eqb}
use Rattle.modes.specs.Bools.{◌⊕◌}
use Rattle.modes.specs.Words.{Modes, bit}
use Rattle.modes.specs.Counts.{count}
use Rattle.modes.proofs.Bools.{⊕_false, ⊕_self, ⊕_self_left}
use Rattle.modes.proofs.Lowest.{Less, Lowest, lowest_less, lowest_small}
use Rattle.modes.specs.Every.{Every, none, more, Pairwise, nothing, beside}
use Rattle.modes.proofs.Every.{every_implies, every_append, pairwise_append}
use Rattle.products.specs.Product.{choices}
use Rattle.products.proofs.Sums.{Part, part_later, part_more, added}

-- ---- how many

unfoldable count_from : ℕ → ℕ → Modes → ℕ
count_from zero p B = 0
count_from (suc n) p B = cond (B p) 1 0 + count_from n (suc p) B

choices_length : (n p : ℕ) (B : Modes) (S : ℕ) → length (choices n p B S) ≡ 2 ^ count_from n p B
unfolding choices count_from
choices_length zero p B S = refl
choices_length (suc n) p B S = go (λ S. choices_length n (suc p) B S) (B p)
  where
    twice : (x : ℕ) → x + x ≡ x * 2
    twice x = omega arith

    go : ((S : ℕ) → length (choices n (suc p) B S) ≡ 2 ^ count_from n (suc p) B) → (b : Bool)
        → length (cond b (choices n (suc p) B S ++ choices n (suc p) B (bit_xor S (2 ^ p))) (choices n (suc p) B S)) ≡ 2 ^ (cond b 1 0 + count_from n (suc p) B)
    go rec true =
        length-append (choices n (suc p) B S) (choices n (suc p) B (bit_xor S (2 ^ p))) ∙ ap₂ (λ (x y : ℕ). x + y) (rec S) (rec (bit_xor S (2 ^ p))) ∙ twice
        (2 ^ count_from n (suc p) B) ∙ sym (pow-suc 2 (count_from n (suc p) B)) ∙ ap (λ (x : ℕ). 2 ^ x) (sym (one-add (count_from n (suc p) B)))
    go rec false = rec S ∙ ap (λ (x : ℕ). 2 ^ x) (sym (zero-add (count_from n (suc p) B)))

-- from mode 0 on that is the count
count_from_is : (n p : ℕ) (B : Modes) → count p B + count_from n p B ≡ count (p + n) B
unfolding count_from count
count_from_is zero p B = add-zero (count p B) ∙ ap (λ (k : ℕ). count k B) (sym (add-zero p))
count_from_is (suc n) p B =
    sym (add_assoc (count p B) (cond (B p) 1 0) (count_from n (suc p) B)) ∙ count_from_is n (suc p) B ∙ ap (λ (k : ℕ). count k B) (suc-add p n ∙ sym (add-suc p n))

count_zero : (B : Modes) → count 0 B ≡ 0
unfolding count
count_zero B = refl

pub choices_number : (B : Modes) → length (choices 64 0 B 0) ≡ 2 ^ count 64 B
choices_number B =
    choices_length 64 0 B 0 ∙ ap (λ (k : ℕ). 2 ^ k) (sym (zero-add (count_from 64 0 B)) ∙ ap (λ (x : ℕ). x + count_from 64 0 B) (sym (count_zero B)) ∙ count_from_is 64 0 B)

pub length_map : {A B : Type 0} (f : A → B) (l : List A) → length (map f l) ≡ length l
length_map f [] = refl
length_map f (x ∷ l) = ap suc (length_map f l)

-- ---- each is a part of B, and no two are the same

pub choices_parts : (n p : ℕ) (B : Modes) (S : ℕ) → p + n ≡ 64 → Part p B S → Every (Part 64 B) (choices n p B S)
unfolding choices
choices_parts zero p B S e h = more (subst (λ (k : ℕ). Part k B S) (sym (add-zero p) ∙ e) h) none
choices_parts (suc n) p B S e h = go (λ S h. choices_parts n (suc p) B S (omega arith) h) (B p) refl
  where
    go : ((S : ℕ) → Part (suc p) B S → Every (Part 64 B) (choices n (suc p) B S)) → (b : Bool) → B p ≡ b
        → Every (Part 64 B) (cond b (choices n (suc p) B S ++ choices n (suc p) B (bit_xor S (2 ^ p))) (choices n (suc p) B S))
    go rec true q = every_append (choices n (suc p) B S) (choices n (suc p) B (bit_xor S (2 ^ p))) (rec S (part_later h)) (rec (bit_xor S (2 ^ p)) (part_more h (omega arith) q))
    go rec false q = rec S (part_later h)

-- the modes below p are those of S
choices_below : (n p : ℕ) (B : Modes) (S i : ℕ) → i < p → Every (λ T. bit T i ≡ bit S i) (choices n p B S)
unfolding choices
choices_below zero p B S i l = more refl none
choices_below (suc n) p B S i l = go (B p) (λ S. choices_below n (suc p) B S i (omega arith))
  where
    same : bit (bit_xor S (2 ^ p)) i ≡ bit S i
    same = added S p i ∙ ap (λ (x : Bool). bit S i ⊕ x) (ne_eqb i p (λ e. omega arith)) ∙ ⊕_false (bit S i)

    go : (b : Bool) → ((S : ℕ) → Every (λ T. bit T i ≡ bit S i) (choices n (suc p) B S))
        → Every (λ T. bit T i ≡ bit S i) (cond b (choices n (suc p) B S ++ choices n (suc p) B (bit_xor S (2 ^ p))) (choices n (suc p) B S))
    go true rec =
        every_append (choices n (suc p) B S) (choices n (suc p) B (bit_xor S (2 ^ p))) (rec S)
        (every_implies (choices n (suc p) B (bit_xor S (2 ^ p))) (λ T e. e ∙ same) (rec (bit_xor S (2 ^ p))))
    go false rec = rec S

pub choices_differ : (n p : ℕ) (B : Modes) (S : ℕ) → Pairwise (λ T U. T ≡ U → ⊥) (choices n p B S)
unfolding choices
choices_differ zero p B S = beside none nothing
choices_differ (suc n) p B S = go (B p) (λ S. choices_differ n (suc p) B S)
  where
    other : (x : Bool) → x ⊕ true ≡ x → ⊥
    other x e = true≢false (sym (⊕_self_left x true) ∙ ap (λ (y : Bool). x ⊕ y) e ∙ ⊕_self x)

    apart : (T U : ℕ) → bit T p ≡ bit S p → bit U p ≡ bit (bit_xor S (2 ^ p)) p → T ≡ U → ⊥
    apart T U h k e = other (bit S p) (sym (k ∙ added S p p ∙ ap (λ (x : Bool). bit S p ⊕ x) (eq-eqb p p refl)) ∙ ap (λ (w : ℕ). bit w p) (sym e) ∙ h)

    go : (b : Bool) → ((S : ℕ) → Pairwise (λ T U. T ≡ U → ⊥) (choices n (suc p) B S))
        → Pairwise (λ T U. T ≡ U → ⊥) (cond b (choices n (suc p) B S ++ choices n (suc p) B (bit_xor S (2 ^ p))) (choices n (suc p) B S))
    go true rec =
        pairwise_append (λ T. bit T p ≡ bit S p) (λ U. bit U p ≡ bit (bit_xor S (2 ^ p)) p) (λ T U. T ≡ U → ⊥) apart
        (choices n (suc p) B S) (choices n (suc p) B (bit_xor S (2 ^ p))) (rec S) (rec (bit_xor S (2 ^ p)))
        (choices_below n (suc p) B S p (lt-suc_self p)) (choices_below n (suc p) B (bit_xor S (2 ^ p)) p (lt-suc_self p))
    go false rec = rec S

-- ---- by the lowest mode

choices_cong : (n p : ℕ) (B C : Modes) (S : ℕ) → ((i : ℕ) → p ≤ i → B i ≡ C i) → choices n p B S ≡ choices n p C S
unfolding choices
choices_cong zero p B C S h = refl
choices_cong (suc n) p B C S h =
    rw (h p (le_refl p), choices_cong n (suc p) B C S (λ i l. h i (omega arith)), choices_cong n (suc p) B C (bit_xor S (2 ^ p)) (λ i l. h i (omega arith)))

choices_split : (n p : ℕ) (B C : Modes) (q S : ℕ) → p ≤ q → q < p + n → Less q B C → ((i : ℕ) → i < q → B i ≡ false)
    → choices n p B S ≡ choices n p C S ++ choices n p C (bit_xor S (2 ^ q))
unfolding choices
choices_split zero p B C q S l m h z = absurd (omega arith)
choices_split (suc n) p B C q S l m h z = go (λ k. choices_split n (suc p) B C q S k (omega arith) h z) (eq-or-lt_of_le l)
  where
    go : (p < q → choices n (suc p) B S ≡ choices n (suc p) C S ++ choices n (suc p) C (bit_xor S (2 ^ q))) → (p ≡ q) ⊎ (p < q)
        → cond (B p) (choices n (suc p) B S ++ choices n (suc p) B (bit_xor S (2 ^ p))) (choices n (suc p) B S)
        ≡ cond (C p) (choices n (suc p) C S ++ choices n (suc p) C (bit_xor S (2 ^ p))) (choices n (suc p) C S)
        ++ cond (C p) (choices n (suc p) C (bit_xor S (2 ^ q)) ++ choices n (suc p) C (bit_xor (bit_xor S (2 ^ q)) (2 ^ p))) (choices n (suc p) C (bit_xor S (2 ^ q)))
    go rec (inl e) =
        rw (e, h.has, h.lost)
        (ap₂ (λ (x y : List ℕ). x ++ y) (choices_cong n (suc q) B C S (λ i k. h.rest i (λ e. omega arith)))
        (choices_cong n (suc q) B C (bit_xor S (2 ^ q)) (λ i k. h.rest i (λ e. omega arith))))
    go rec (inr k) = rw (z p k, sym (h.rest p (λ e. omega arith)) ∙ z p k) (rec k)

pub choices_lowest : (r S : ℕ) (h : 0 < r) → r < 2 ^ 64 → (l : Lowest r)
    → choices 64 0 (bit r) S ≡ choices 64 0 (bit (bit_and r (r - 1))) S ++ choices 64 0 (bit (bit_and r (r - 1))) (bit_xor S (2 ^ l.at))
choices_lowest r S h b l = choices_split 64 0 (bit r) (bit (bit_and r (r - 1))) l.at S zero-le (lowest_small 64 r l b) (lowest_less r l) l.clean
