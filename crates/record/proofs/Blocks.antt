-- The terms with one annihilation word in an ascending list: where they stand, and that their stretch holds their creations.
use mathlib.Core.Path.{◌≡◌, refl, sym, ap, ◌∙◌}
use mathlib.Core.Bool.{Bool, true, false, cond, ◌&&◌, ◌||◌}
use mathlib.Core.List.{List, [], ◌∷◌}
use mathlib.Core.Logic.{◌⊎◌, inl, inr}
use Prim.Native.Nat.{ℕ, zero, suc, ◌+◌, ◌*◌, ◌-◌, ◌^◌, ◌≤◌, ◌<◌, zero-le}
use native.Mathlib.Omega.{arith}
use native.Mathlib.Nat.{mul-suc}
use lib.Dec.{eqb, ltb}
use lib.ListN.{length, take, drop}
use lib.Seq.{take-take, drop-drop}
use borrow.Author.Tests.{eq-eqb, ne_eqb, lt-ltb, le-ltb, ltb-true, eqb-true}
use Rattle.modes.proofs.Refusals.{by_verdict, unless_so, unless_not, either_way}
use Rattle.modes.specs.declared.Term.{Term}
use Rattle.modes.proofs.Digits.{lt_or_ge}
use Rattle.lent.specs.Bytes.{word_at}
use Rattle.modes.specs.Every.{Every, none, more}
use Rattle.lent.proofs.NumbersAt.{num_at_below}
use Rattle.record.specs.Numbers.{numbers}
use Rattle.record.specs.Terms.{before, Above, Ascending, empty, above}
use Rattle.record.specs.Layout.{column, count_of, together, terms_in, terms_of}
use Rattle.std.specs.Prelude.{Ok}
use Rattle.modes.specs.Answers.{none as unrefused}
use Rattle.record.specs.Refusals.{refusal_of, checked_of}
use Rattle.record.specs.Reading.{Holds}
use Rattle.record.specs.Counting.{count_if, earlier}
use Rattle.record.specs.Blocks.{ann_below, block_first, block_past, empty_stretch, stretch, block_of, bytes_in}
use Rattle.record.specs.declared.Stretch.{Stretch}
use Rattle.record.specs.declared.Checked.{Checked}
use Rattle.record.proofs.Reading.{columns_at, length_terms}
use Rattle.record.proofs.Accepted.{Accepted, accepted_laid, accepted_canonical}
use Rattle.record.proofs.Inverse.{Small, creations_read}
use Rattle.record.proofs.Order.{Order, lower, level, order}
use Rattle.record.proofs.Columns.{drop_take, column_none, column_take, column_drop}
use Rattle.record.proofs.Halving.{count_length, count_more, count_same, count_all, Downward, none_above}

first_below_past : (a : ℕ) (ts : List Term) → count_if (ann_below a) ts ≤ count_if (ann_below (a + 1)) ts
first_below_past a ts = count_more (ann_below a) (ann_below (a + 1)) ts (λ t e. lt-ltb t.ann (a + 1) (omega (arith, ltb-true t.ann a e)))

ann_below_is : (t u : Term) → before t u ≡ true → t.ann ≤ u.ann
ann_below_is t u e = go (order t u e)
  where
    go : Order t u → t.ann ≤ u.ann
    go (lower h) = omega arith
    go (level q h) = omega arith

below_downward : (a : ℕ) → Downward (ann_below a)
below_downward a t u e h = lt-ltb t.ann a (omega (arith, ann_below_is t u e, ltb-true u.ann a h))

-- ---- the bounds

before_bare : (t u : Term) → t.cre ≡ 0 → before u t ≡ ltb u.ann t.ann
unfolding before
before_bare t u e = rw (e, le-ltb u.cre 0 zero-le) (go (ltb u.ann t.ann) (eqb u.ann t.ann))
  where
    go : (b c : Bool) → b || (c && false) ≡ b
    go true c = refl
    go false true = refl
    go false false = refl

-- before a term without creations stand those with a lower annihilation word
pub count_earlier : (t : Term) (ts : List Term) → t.cre ≡ 0 → count_if (earlier t) ts ≡ count_if (ann_below t.ann) ts
count_earlier t ts e = count_same (earlier t) (ann_below t.ann) ts (λ u. before_bare t u e)

-- a word of 8 bytes is below 2^64
words_below : (l : List ℕ) (b : ℕ) → Small l → 2 ^ 64 ≤ b → (a c z n : ℕ) → a + 8 * n ≤ length l → Every (λ t. ann_below b t ≡ true) (columns_at l a c z n)
unfolding together numbers
words_below l b small w a c z zero h = none
words_below l b small w a c z (suc n) h =
    let m : 8 * suc n ≡ 8 * n + 8 = mul-suc 8 n in
    more (lt-ltb (word_at l a) b (omega (arith, num_at_below 8 l a (omega arith) small))) (words_below l b small w (a + 8) (c + 8) (z + 8) n (omega arith))

pub count_every : (l : List ℕ) (n b : ℕ) → Small l → Holds l n → 2 ^ 64 ≤ b → n ≡ count_if (ann_below b) (terms_in l n)
unfolding terms_in
count_every l n b small h w =
    sym (count_all (ann_below b) (terms_in l n) (words_below l b small w 32 (32 + 8 * n) (32 + 16 * n) n (omega arith)) ∙ length_terms l n)

past_inside : (l : List ℕ) (n a : ℕ) → count_if (ann_below a) (terms_in l n) ≤ n
past_inside l n a = let h = count_length (ann_below a) (terms_in l n) in let e = length_terms l n in omega arith

pub stretch_none : (n f p : ℕ) → f ≡ p → empty_stretch ≡ stretch n f p
stretch_none n f p e = rw (eq-eqb _ _ e)

pub stretch_some : (n f p : ℕ) → (f ≡ p → ⊥) → ◌≡◌ {A = Stretch} (record { start = 32 + 8 * n + 8 * f; len = 8 * (p - f) }) (stretch n f p)
stretch_some n f p h = rw (ne_eqb _ _ h)

pub block_refused : (l : List ℕ) (a : ℕ) → ((c : Checked) → checked_of 1 l ≡ Ok c → ⊥) → empty_stretch ≡ block_of l a
block_refused l a h =
    by_verdict (refusal_of 1 l) (λ z. absurd (h _ (unless_not (refusal_of 1 l) _ _ z)))
    (λ r e. sym (unless_so (refusal_of 1 l) _ _ r e))

pub block_found : (l : List ℕ) (a : ℕ) (c : Checked) → Accepted 1 l c → (f p : ℕ) → f ≡ count_if (ann_below a) (terms_in l c.terms)
    → p ≡ count_if (ann_below (a + 1)) (terms_in l c.terms) → stretch c.terms f p ≡ block_of l a
block_found l a c k f p ef ep = rw (ef, ep, k.terms, ap (λ (d : Checked). d.terms) k.is) (sym (unless_not (refusal_of 1 l) _ _ k.fine))

pub block_bounded : (l : List ℕ) (a : ℕ) (c : Checked) → Accepted 1 l c → (f p : ℕ) → f ≡ count_if (ann_below a) (terms_in l c.terms)
    → p ≡ count_if (ann_below (a + 1)) (terms_in l c.terms) → (c.terms ≤ 2048) × (f ≤ p) × (p ≤ c.terms)
block_bounded l a c k f p ef ep = (
  omega (arith, k.laid.few, ap (λ (d : Checked). d.terms) k.is),
  omega (arith, first_below_past a (terms_in l c.terms)),
  omega (arith, past_inside l c.terms (a + 1)),
)

abbrev Within : List ℕ → Stretch → Type 0
Within l s = s.start + s.len ≤ length l

-- the stretch lies within the record
pub block_inside : (l : List ℕ) (a : ℕ) → (block_of l a).start + (block_of l a).len ≤ length l
block_inside l a =
    either_way (refusal_of 1 l) (λ _. empty_stretch) (stretch (count_of l) (block_first l a) (block_past l a)) (Within l) (λ z. go z (eqb (block_first l a) (block_past l a)))
    (λ r e. zero-le)
  where
    go : refusal_of 1 l ≡ unrefused → (d : Bool)
        → Within l (cond d empty_stretch (record { start = 32 + 8 * count_of l + 8 * block_first l a; len = 8 * (block_past l a - block_first l a) }))
    go z true = zero-le
    go z false =
        omega (arith, (accepted_laid 1 l z).size, past_inside l (count_of l) (a + 1), first_below_past a (terms_of l))

-- ---- what stands there

-- the terms with the annihilation word a
unfoldable pub having : ℕ → List Term → List Term
having a [] = []
having a (t ∷ ts) = cond (eqb t.ann a) (t ∷ having a ts) (having a ts)

none_having : (a : ℕ) (t : Term) (ts : List Term) → a < t.ann → Above t ts → having a ts ≡ []
unfolding having
none_having a t [] h none = refl
none_having a t (u ∷ ts) h (more b s) = rw (ne_eqb u.ann a (λ e. omega (arith, ann_below_is t u b)), none_having a t ts h s)

-- in an ascending list they stand together
having_is : (a : ℕ) (ts : List Term) → Ascending ts
    → having a ts ≡ take (count_if (ann_below (a + 1)) ts - count_if (ann_below a) ts) (drop (count_if (ann_below a) ts) ts)
unfolding having count_if
having_is a [] empty = refl
having_is a (t ∷ ts) (above b s) = go (having_is a ts s) (lt_or_ge t.ann a) (lt_or_ge a t.ann)
  where
    go : having a ts ≡ take (count_if (ann_below (a + 1)) ts - count_if (ann_below a) ts) (drop (count_if (ann_below a) ts) ts)
        → (t.ann < a) ⊎ (a ≤ t.ann) → (a < t.ann) ⊎ (t.ann ≤ a)
        → cond (eqb t.ann a) (t ∷ having a ts) (having a ts)
        ≡ take ((cond (ltb t.ann (a + 1)) 1 0 + count_if (ann_below (a + 1)) ts) - (cond (ltb t.ann a) 1 0 + count_if (ann_below a) ts))
        (drop (cond (ltb t.ann a) 1 0 + count_if (ann_below a) ts) (t ∷ ts))
    go ih (inl h) k =
        let d : 1 + count_if (ann_below a) ts ≡ suc (count_if (ann_below a) ts) = omega arith in
        let m : (1 + count_if (ann_below (a + 1)) ts) - suc (count_if (ann_below a) ts) ≡ count_if (ann_below (a + 1)) ts - count_if (ann_below a) ts = omega arith in
        rw (ne_eqb t.ann a (λ e. omega arith), lt-ltb t.ann (a + 1) (omega arith), lt-ltb t.ann a h, d, m) ih
    go ih (inr h) (inl k) =
        let f : count_if (ann_below a) ts ≡ 0 = none_above (ann_below a) (below_downward a) t ts (le-ltb t.ann a h) b in
        let p : count_if (ann_below (a + 1)) ts ≡ 0 = none_above (ann_below (a + 1)) (below_downward (a + 1)) t ts (le-ltb t.ann (a + 1) (omega arith)) b in
        rw (ne_eqb t.ann a (λ e. omega arith), le-ltb t.ann (a + 1) (omega arith), le-ltb t.ann a h, f, p) (none_having a t ts k b)
    go ih (inr h) (inr k) =
        let f : count_if (ann_below a) ts ≡ 0 = none_above (ann_below a) (below_downward a) t ts (le-ltb t.ann a h) b in
        let z : count_if (ann_below (a + 1)) ts - 0 ≡ count_if (ann_below (a + 1)) ts = omega arith in
        let m : (1 + count_if (ann_below (a + 1)) ts) - 0 ≡ suc (count_if (ann_below (a + 1)) ts) = omega arith in
        let rest : having a ts ≡ take (count_if (ann_below (a + 1)) ts) ts = rw (f, z) at ih in
        rw (eq-eqb t.ann a (omega arith), lt-ltb t.ann (a + 1) (omega arith), le-ltb t.ann a h, f, m) (ap (λ (us : List Term). t ∷ us) rest)

-- a stretch of the creation column
stretch_bytes : (l : List ℕ) (n f p : ℕ) → column (λ t. t.cre) (terms_in l n) ≡ take (8 * n) (drop (32 + 8 * n) l) → f ≤ p → p ≤ n
    → bytes_in (stretch n f p) l ≡ column (λ t. t.cre) (take (p - f) (drop f (terms_in l n)))
stretch_bytes l n f p e h k = go (eqb f p) refl
  where
    go : (b : Bool) → eqb f p ≡ b
        → bytes_in (cond b empty_stretch (record { start = 32 + 8 * n + 8 * f; len = 8 * (p - f) })) l ≡ column (λ t. t.cre) (take (p - f) (drop f (terms_in l n)))
    go true q = let z : p - f ≡ 0 = omega (arith, eqb-true f p q) in rw z (sym (column_none (λ t. t.cre)))
    go false q =
        let w : 8 * (p - f) ≤ 8 * n - 8 * f = omega arith in
        rw (← drop-drop (8 * f) (32 + 8 * n) l)
        (sym (take-take (8 * (p - f)) (8 * n - 8 * f) (drop (8 * f) (drop (32 + 8 * n) l)) w)
        ∙ ap (take (8 * (p - f))) (sym (drop_take (8 * f) (8 * n) (drop (32 + 8 * n) l)) ∙ ap (drop (8 * f)) (sym e) ∙ column_drop (λ t. t.cre) f (terms_in l n))
        ∙ column_take (λ t. t.cre) (p - f) (drop f (terms_in l n)))

-- THE BLOCK. Of an accepted record it is the creations of exactly the terms with that annihilation word, in their order
pub block_words : (l : List ℕ) (a : ℕ) → Small l → refusal_of 1 l ≡ unrefused → bytes_in (block_of l a) l ≡ column (λ t. t.cre) (having a (terms_of l))
block_words l a small e =
    let size = (accepted_laid 1 l e).size in
    let whole = creations_read l small (count_of l) (omega arith) in
    rw (unless_not (refusal_of 1 l) _ _ e, having_is a (terms_of l) (accepted_canonical 1 l e).ascending)
    (stretch_bytes l (count_of l) (block_first l a) (block_past l a) whole (first_below_past a (terms_of l)) (past_inside l (count_of l) (a + 1)))
