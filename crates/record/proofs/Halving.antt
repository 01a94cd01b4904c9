-- Counting terms, and halving: what holds of a term in an ascending list and of all before it is counted by halving.
use mathlib.Core.Path.{◌≡◌, refl, sym, ap, ◌∙◌}
use mathlib.Core.Bool.{Bool, true, false, cond, true≢false}
use mathlib.Core.List.{List, [], ◌∷◌, ◌++◌}
use Prim.Native.Nat.{ℕ, zero, suc, ◌+◌, ◌≤◌, zero-le}
use native.Mathlib.Omega.{arith}
use native.Mathlib.Numerals.{add-one}
use lib.ListN.{length, take, drop, take-append-drop}
use lib.Seq.{drop-nil}
use Rattle.modes.specs.declared.Term.{Term}
use Rattle.modes.specs.Every.{Every, none, more}
use Rattle.record.specs.Terms.{before, Above, Ascending, empty, above}
use Rattle.record.specs.Reading.{At}
use Rattle.record.specs.Counting.{count_if, earlier}
use Rattle.record.proofs.Order.{before_trans}

-- ---- counting

count_append : (p : Term → Bool) (ts us : List Term) → count_if p (ts ++ us) ≡ count_if p ts + count_if p us
unfolding count_if
count_append p [] us = omega arith
count_append p (t ∷ ts) us = rw (count_append p ts us) (omega arith)

pub count_length : (p : Term → Bool) (ts : List Term) → count_if p ts ≤ length ts
unfolding count_if
count_length p [] = zero-le
count_length p (t ∷ ts) = go (p t) (count_length p ts)
  where
    go : (b : Bool) → count_if p ts ≤ length ts → cond b 1 0 + count_if p ts ≤ suc (length ts)
    go true h = omega arith
    go false h = omega arith

pub count_more : (p q : Term → Bool) (ts : List Term) → ((t : Term) → p t ≡ true → q t ≡ true) → count_if p ts ≤ count_if q ts
unfolding count_if
count_more p q [] h = zero-le
count_more p q (t ∷ ts) h = go (p t) (q t) (h t) (count_more p q ts h)
  where
    go : (a b : Bool) → (a ≡ true → b ≡ true) → count_if p ts ≤ count_if q ts → cond a 1 0 + count_if p ts ≤ cond b 1 0 + count_if q ts
    go true true k l = omega arith
    go true false k l = absurd (true≢false (sym (k refl)))
    go false true k l = omega arith
    go false false k l = omega arith

pub count_same : (p q : Term → Bool) (ts : List Term) → ((t : Term) → p t ≡ q t) → count_if p ts ≡ count_if q ts
unfolding count_if
count_same p q [] h = refl
count_same p q (t ∷ ts) h = rw (h t, count_same p q ts h)

pub count_all : (p : Term → Bool) (ts : List Term) → Every (λ t. p t ≡ true) ts → count_if p ts ≡ length ts
unfolding count_if
count_all p [] none = refl
count_all p (t ∷ ts) (more h hs) = rw (h, count_all p ts hs) (omega arith)

-- what holds of a term holds of those before it
abbrev pub Downward : (Term → Bool) → Type 0
Downward p = (t u : Term) → before t u ≡ true → p u ≡ true → p t ≡ true

pub earlier_downward : (t : Term) → Downward (earlier t)
earlier_downward t u v e h = before_trans u v t e h

above_at : (x t : Term) (ts us : List Term) (i : ℕ) → Above x ts → drop i ts ≡ t ∷ us → before x t ≡ true
above_at x t [] us i none e = let z : ◌≡◌ {A = List Term} [] (t ∷ us) = sym (drop-nil i) ∙ e in let w : ◌≡◌ {A = ℕ} 0 1 = cc in absurd (omega arith)
above_at x t (u ∷ ts) us zero (more h a) e = let w : u ≡ t = cc in rw w at h
above_at x t (u ∷ ts) us (suc i) (more h a) e = above_at x t ts us i a e

module _ (p : Term → Bool) (down : Downward p) where
  -- what holds of a term holds of all up to it
  all_before : (ts us : List Term) (t : Term) (i : ℕ) → Ascending ts → drop i ts ≡ t ∷ us → p t ≡ true → count_if p (take (suc i) ts) ≡ suc i
  unfolding count_if
  all_before [] us t i empty e h =
      let z : ◌≡◌ {A = List Term} [] (t ∷ us) = sym (drop-nil i) ∙ e in let w : ◌≡◌ {A = ℕ} 0 1 = cc in absurd (omega arith)
  all_before (x ∷ ts) us t zero (above a s) e h = let w : x ≡ t = cc in let q : p x ≡ true = ap p w ∙ h in rw q
  all_before (x ∷ ts) us t (suc i) (above a s) e h =
      let q : p x ≡ true = down x t (above_at x t ts us i a e) h in rw (q, all_before ts us t i s e h) (omega arith)

  pub none_above : (t : Term) (ts : List Term) → p t ≡ false → Above t ts → count_if p ts ≡ 0
  unfolding count_if
  none_above t [] h none = refl
  none_above t (u ∷ ts) h (more b a) = go (none_above t ts h a) (p u) refl
    where
      go : count_if p ts ≡ 0 → (c : Bool) → p u ≡ c → cond c 1 0 + count_if p ts ≡ 0
      go ih true e = absurd (true≢false (sym (down t u b e) ∙ h))
      go ih false e = omega arith

  -- what does not hold of a term holds of none after it
  none_after : (ts us : List Term) (t : Term) (i : ℕ) → Ascending ts → drop i ts ≡ t ∷ us → p t ≡ false → count_if p (drop i ts) ≡ 0
  unfolding count_if
  none_after [] us t i empty e h =
      let z : ◌≡◌ {A = List Term} [] (t ∷ us) = sym (drop-nil i) ∙ e in let w : ◌≡◌ {A = ℕ} 0 1 = cc in absurd (omega arith)
  none_after (x ∷ ts) us t zero (above a s) e h =
      let w : x ≡ t = cc in let q : p x ≡ false = ap p w ∙ h in let r = none_above x ts q a in rw q (omega arith)
  none_after (x ∷ ts) us t (suc i) (above a s) e h = none_after ts us t i s e h

-- ---- halving: it holds of the first low terms, and of none from the high-th on

pub record Halving (p : Term → Bool) (ts : List Term) (low high : ℕ) : Type 0 where
  pub before : count_if p (take low ts) ≡ low
  pub after : count_if p (drop high ts) ≡ 0

pub halving_starts : (p : Term → Bool) (ts : List Term) (n : ℕ) → drop n ts ≡ [] → Halving p ts 0 n
unfolding count_if
halving_starts p ts n e = record { before = refl; after = rw e }

module _ (p : Term → Bool) (down : Downward p) (ts : List Term) (s : Ascending ts) (low high i : ℕ) (t : Term) (at : At ts i t) (g : Halving p ts low high) where
  pub halving_rises : p t ≡ true → Halving p ts (i + 1) high
  halving_rises h = record { before = rw (add-one i) (all_before p down ts _ t i s at h); after = g.after }

  pub halving_falls : p t ≡ false → Halving p ts low i
  halving_falls h = record { before = g.before; after = none_after p down ts _ t i s at h }

pub halving_ends : (p : Term → Bool) (ts : List Term) (low high : ℕ) → high ≡ low → Halving p ts low high → low ≡ count_if p ts
halving_ends p ts low high e g =
    let after : count_if p (drop low ts) ≡ 0 = ap (λ (k : ℕ). count_if p (drop k ts)) (sym e) ∙ g.after in
    sym (ap (count_if p) (sym (take-append-drop low ts)) ∙ count_append p (take low ts) (drop low ts) ∙ omega (arith, g.before))
