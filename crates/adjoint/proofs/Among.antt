-- A record is Hermitian exactly if the adjoint of every term is among its terms; and halving finds a term that is among them.
use mathlib.Core.Path.{◌≡◌, refl, sym, ap, ap₂, ◌∙◌, subst}
use mathlib.Core.Bool.{Bool, true, false, cond, ◌&&◌, true≢false}
use mathlib.Core.List.{List, [], ◌∷◌, map}
use mathlib.Core.Logic.{◌⊎◌, inl, inr}
use Prim.Native.Nat.{ℕ, suc, ◌+◌, ◌≤◌}
use native.Mathlib.Omega.{arith}
use lib.Dec.{eqb}
use lib.IntN.{pos, nat_abs}
use Rattle.std.specs.Bool.{Decides}
use Rattle.std.specs.Ordering.{int_eq}
use Rattle.std.proofs.lemmas.Bool.Decides.{Decides-and, Decides-at, Decides-like, Decides-eqb, Decides-int_eq, not_from_Decides}
use lib.ListN.{length, take, drop, drop_of_length-le}
use lib.Seq.{take_all}
use Rattle.modes.specs.declared.Term.{Term}
use Rattle.modes.specs.Every.{Every, none, more}
use Rattle.modes.proofs.Every.{every_last, every_implies, every_both}
use Rattle.lent.proofs.RowLaws.{term_of}
use Rattle.products.specs.Operators.{signed}
use Rattle.products.proofs.Signs.{signed_zero, abs_signed}
use Rattle.record.specs.Terms.{before, Above, Ascending, empty, above}
use Rattle.record.specs.Counting.{count_if, earlier}
use Rattle.record.specs.Coefficients.{coeff_of}
use Rattle.record.specs.Canonical.{Nonzero}
use Rattle.record.proofs.Order.{before_one_way}
use Rattle.record.proofs.Accepted.{abs_zero}
use Rattle.normal.proofs.Totals.{coeff_normal}
use Rattle.normal.proofs.Normal.{normal_is}
use Rattle.normal.proofs.Words.{Some, same_or_not, held, own_coeffs}
use Rattle.adjoint.specs.Adjoint.{odd_pairs, adjoint_term, adjoint_terms}
use Rattle.adjoint.specs.Hermitian.{Among, AdjointsAmong, Tells}
use Rattle.adjoint.proofs.Terms.{still_nonzero, odd_words, coeff_adjoint}
use Rattle.adjoint.proofs.Writing.{every_drop, take_one_more}

-- ---- one of the terms

every_among : {P : Term → Type 0} (t : Term) (ts : List Term) → Every P ts → Among t ts → P t
every_among t [] none a = absurd a
every_among t (u ∷ ts) (more p ps) (inl e) = rw e at p
every_among t (u ∷ ts) (more p ps) (inr a) = every_among t ts ps a

among_every : (P : Term → Type 0) (ts : List Term) → ((t : Term) → Among t ts → P t) → Every P ts
among_every P [] h = none
among_every P (t ∷ ts) h = more (h t (inl refl)) (among_every P ts (λ u a. h u (inr a)))

drop_among : (ts us : List Term) (t : Term) (i : ℕ) → drop i ts ≡ t ∷ us → Among t ts
drop_among ts us t i e = every_drop ts us t i (among_every (λ u. Among u ts) ts (λ u a. a)) e

not_itself : (t : Term) → before t t ≡ true → ⊥
not_itself t e = before_one_way t t e e

-- ---- by their coefficients: in an ascending list, the terms are those at whose words the coefficient is not zero

among_coeff : (t : Term) (ts : List Term) → Ascending ts → Among t ts → coeff_of t.cre t.ann ts ≡ t.coeff
among_coeff t ts s a = every_among t ts (own_coeffs ts s) a

some_among : {P Q : Term → Type 0} (t : Term) (ts : List Term) → ((u : Term) → P u → Q u → u ≡ t) → Some P ts → Every Q ts → Among t ts
some_among t [] f s none = s
some_among t (u ∷ ts) f (inl p) (more q qs) = inl (f u p q)
some_among t (u ∷ ts) f (inr s) (more q qs) = inr (some_among t ts f s qs)

coeff_among : (t : Term) (ts : List Term) → Ascending ts → coeff_of t.cre t.ann ts ≡ t.coeff → Nonzero t → Among t ts
coeff_among t ts s e n =
    some_among t ts (λ u w q. term_of w.0 w.1 (sym q ∙ ap₂ (λ (c a : ℕ). coeff_of c a ts) w.1 w.0 ∙ e))
    (held t.cre t.ann ts (λ z. n (sym e ∙ z))) (own_coeffs ts s)

-- every term has its adjoint among them exactly if the adjoint terms are the terms
pub among_same : (ts : List Term) → Ascending ts → Every Nonzero ts → AdjointsAmong ts ts → adjoint_terms ts ≡ ts
unfolding adjoint_term odd_pairs
among_same ts s n h =
    sym (normal_is ts (map adjoint_term ts) s n
    (λ c a. agree c a (same_or_not (coeff_of a c ts) (pos 0)) (same_or_not (coeff_of c a ts) (pos 0)) ∙ sym (coeff_adjoint c a ts)))
  where
    -- the term at {a|c} has its adjoint at {c|a}
    there : (c a : ℕ) → (coeff_of a c ts ≡ pos 0 → ⊥) → coeff_of c a ts ≡ signed (odd_words a c) (coeff_of a c ts)
    there c a k =
        let t : Term = record { cre = a; ann = c; coeff = coeff_of a c ts } in
        among_coeff (adjoint_term t) ts s (every_among t ts h (coeff_among t ts s refl k))

    agree : (c a : ℕ) → (coeff_of a c ts ≡ pos 0) ⊎ (coeff_of a c ts ≡ pos 0 → ⊥) → (coeff_of c a ts ≡ pos 0) ⊎ (coeff_of c a ts ≡ pos 0 → ⊥)
        → coeff_of c a ts ≡ signed (odd_words a c) (coeff_of a c ts)
    agree c a (inr k) y = there c a k
    agree c a (inl z) (inl y) = y ∙ sym (rw z (signed_zero (odd_words a c)))
    agree c a (inl z) (inr k) = absurd (k (abs_zero _ (sym (abs_signed (odd_words c a) (coeff_of c a ts)) ∙ ap nat_abs (sym (there a c k) ∙ z))))

pub same_among : (ts : List Term) → Ascending ts → Every Nonzero ts → adjoint_terms ts ≡ ts → AdjointsAmong ts ts
unfolding adjoint_term odd_pairs
same_among ts s n e =
    every_implies ts (λ u k. coeff_among (adjoint_term u) ts s
    (ap (coeff_of u.ann u.cre) (sym e) ∙ coeff_normal u.ann u.cre (map adjoint_term ts) ∙ coeff_adjoint u.ann u.cre ts ∙ ap (signed (odd_pairs u)) k.0)
    (still_nonzero u k.1))
    (every_both ts (own_coeffs ts s) n)

-- ---- one term or two

pub tells_no : {P : Type 0} → (P → ⊥) → Tells false P
tells_no h = record { yes = λ z. absurd (true≢false (sym z)); no = λ z. h }

-- as `==` tells it, field by field
pub same_words : (t u : Term) (b : Bool) → b ≡ (eqb t.cre u.cre && (eqb t.ann u.ann && int_eq t.coeff u.coeff)) → Tells b (t ≡ u)
same_words t u b e =
    let fields = Decides-and _ _ (Decides-eqb t.cre u.cre) (Decides-and _ _ (Decides-eqb t.ann u.ann) (Decides-int_eq t.coeff u.coeff)) in
    let same : Decides b (t ≡ u) =
    Decides-at b _ e (Decides-like _ (λ p. term_of p.1.0 p.0 p.1.1)
    (λ q. (ap (λ (x : Term). x.cre) q, (ap (λ (x : Term). x.ann) q, ap (λ (x : Term). x.coeff) q))) fields) in
    record { yes = same.0; no = not_from_Decides b same }

-- ---- the walk over the terms

pub among_goes : (ts us : List Term) (i : ℕ) (t u : Term) (b : Bool) → AdjointsAmong ts (take i ts) → drop i ts ≡ t ∷ us → u ≡ adjoint_term t
    → Tells b (Among u ts) → b ≡ true → AdjointsAmong ts (take (i + 1) ts)
among_goes ts us i t u b h e q k y =
    rw (take_one_more ts us t i e) (every_last (take i ts) t h (rw q at (k.yes y)))

pub among_fails : (ts us : List Term) (i : ℕ) (t u : Term) (b : Bool) → drop i ts ≡ t ∷ us → u ≡ adjoint_term t → Tells b (Among u ts) → b ≡ false
    → Tells false (AdjointsAmong ts ts)
among_fails ts us i t u b e q k n = tells_no (λ p. k.no n (rw q (every_drop ts us t i p e)))

pub among_ends : (ts : List Term) (i : ℕ) → length ts ≤ i → AdjointsAmong ts (take i ts) → Tells true (AdjointsAmong ts ts)
among_ends ts i h p =
    record { yes = λ z. rw (take_all i ts h) at p; no = λ z. absurd (true≢false z) }

-- ---- the search

none_earlier : (t : Term) (ts : List Term) → Above t ts → count_if (earlier t) ts ≡ 0
unfolding count_if
none_earlier t [] none = refl
none_earlier t (u ∷ ts) (more h a) = go (before u t) refl (none_earlier t ts a)
  where
    go : (b : Bool) → before u t ≡ b → count_if (earlier t) ts ≡ 0 → cond b 1 0 + count_if (earlier t) ts ≡ 0
    go true e r = absurd (before_one_way t u h e)
    go false e r = omega arith

-- a term that is among them stands after those before it
found_at : (t : Term) (ts : List Term) → Ascending ts → Among t ts → drop (count_if (earlier t) ts) ts ≡ t ∷ drop (suc (count_if (earlier t) ts)) ts
unfolding count_if
found_at t [] empty a = absurd a
found_at t (u ∷ ts) (above h s) (inl e) = go (before u t) refl (none_earlier t ts (subst (λ (y : Term). Above y ts) e h))
  where
    go : (b : Bool) → before u t ≡ b → count_if (earlier t) ts ≡ 0
        → drop (cond b 1 0 + count_if (earlier t) ts) (u ∷ ts) ≡ t ∷ drop (suc (cond b 1 0 + count_if (earlier t) ts)) (u ∷ ts)
    go true q r = absurd (not_itself t (rw e at q))
    go false q r = rw r (ap (λ (x : Term). x ∷ ts) e)
found_at t (u ∷ ts) (above h s) (inr a) =
    let k : 1 + count_if (earlier t) ts ≡ suc (count_if (earlier t) ts) = omega arith in
    rw (every_among t ts h a, k) (found_at t ts s a)

pub search_past : (t : Term) (ts : List Term) (i : ℕ) → Ascending ts → i ≡ count_if (earlier t) ts → length ts ≤ i → Tells false (Among t ts)
search_past t ts i s e h =
    tells_no (λ a.
    let q : ◌≡◌ {A = List Term} [] (t ∷ drop (suc i) ts) = sym (drop_of_length-le ts {i = i} h) ∙ (rw (← e) at (found_at t ts s a)) in
    let w : ◌≡◌ {A = ℕ} 0 1 = cc in
    omega arith)

pub search_at : (t u : Term) (ts us : List Term) (i : ℕ) (b : Bool) → Ascending ts → i ≡ count_if (earlier t) ts → drop i ts ≡ u ∷ us → Tells b (t ≡ u)
    → Tells b (Among t ts)
search_at t u ts us i b s e d k =
    record {
      yes = λ y. subst (λ (v : Term). Among v ts) (sym (k.yes y)) (drop_among ts us u i d);
      no = λ n a.
          let q : ◌≡◌ {A = List Term} (t ∷ drop (suc i) ts) (u ∷ us) = sym (rw (← e) at (found_at t ts s a)) ∙ d in
          let w : t ≡ u = cc in
          k.no n w;
    }
