-- Which term is named: one of those that differ, with none ahead of it. So lists of the same words name the same pair.
use mathlib.Core.Path.{◌≡◌, refl, sym, ap₂, ◌∙◌, subst}
use mathlib.Core.Bool.{Bool, true, false, cond, true≢false}
use mathlib.Core.List.{List, [], ◌∷◌}
use mathlib.Core.Logic.{inl, inr}
use Prim.Native.Nat.{ℕ, ◌<◌}
use lib.IntN.{pos}
use Rattle.modes.specs.Words.{bit}
use Rattle.modes.specs.Counts.{count}
use Rattle.modes.specs.declared.Term.{Term}
use Rattle.modes.specs.Every.{Every, none, more}
use Rattle.normal.proofs.Words.{Held}
use Rattle.std.specs.Prelude.{Option, Some, None}
use Rattle.compare.specs.declared.Difference.{Difference}
use Rattle.compare.specs.Comparison.{ahead, foremost, named}
use Rattle.compare.proofs.Ahead.{fewer, is_ahead, not_itself, ahead_words, Placed, first, alike, second, placed, behind, not_ahead}

-- by their words, the terms are those at which D holds
pub record Lists (D : ℕ → ℕ → Type 0) (ts : List Term) : Type 0 where
  pub each : Every (λ t. D t.cre t.ann) ts
  pub all : (c a : ℕ) → D c a → Held c a ts

-- ---- the foremost

foremost_of : (P : Term → Type 0) (t : Term) (ts : List Term) → Every P (t ∷ ts) → P (foremost t ts)
unfolding foremost
foremost_of P t [] (more p none) = p
foremost_of P t (u ∷ ts) (more p (more q h)) = foremost_of P (cond (ahead u t) u t) ts (more (go (ahead u t)) h)
  where
    go : (b : Bool) → P (cond b u t)
    go true = q
    go false = p

none_ahead : (t : Term) (ts : List Term) → Every (λ x. ahead x (foremost t ts) ≡ false) (t ∷ ts)
unfolding foremost
none_ahead t [] = more (not_itself t) none
none_ahead t (u ∷ ts) = go (ahead u t) refl (none_ahead (cond (ahead u t) u t) ts)
  where
    go : (b : Bool) → ahead u t ≡ b → Every (λ x. ahead x (foremost (cond b u t) ts) ≡ false) (cond b u t ∷ ts)
        → Every (λ x. ahead x (foremost (cond b u t) ts) ≡ false) (t ∷ u ∷ ts)
    go true e (more h hs) = more (behind t u (foremost u ts) e h) (more h hs)
    go false e (more h hs) = more h (more (not_ahead u t (foremost t ts) e h) hs)

-- words that are held are not ahead of the foremost
held_behind : (x g : Term) (ts : List Term) → Every (λ t. ahead t g ≡ false) ts → Held x.cre x.ann ts → ahead x g ≡ false
held_behind x g [] none w = absurd w
held_behind x g (t ∷ ts) (more h hs) (inl w) = sym (ahead_words t x g w.0 w.1) ∙ h
held_behind x g (t ∷ ts) (more h hs) (inr s) = held_behind x g ts hs s

-- ---- the pair that is named

some_same : {x y : Difference} → ◌≡◌ {A = Option Difference} (Some x) (Some y) → x ≡ y
some_same e = cc

abbrev words : ℕ → ℕ → Option Difference
words a c = Some (record { bra = c; ket = a })

module _ (D : ℕ → ℕ → Type 0) where
  nothing_named : (ts : List Term) → Lists D [] → Lists D ts → named [] ≡ named ts
  nothing_named [] k l = refl
  nothing_named (t ∷ ts) k l = go l.each
    where
      go : Every (λ u. D u.cre u.ann) (t ∷ ts) → named [] ≡ named (t ∷ ts)
      go (more h hs) = absurd (k.all t.cre t.ann h)

  pub named_same : (ts us : List Term) → Lists D ts → Lists D us → named ts ≡ named us
  unfolding named
  named_same [] us k l = nothing_named us k l
  named_same (t ∷ ts) [] k l = sym (nothing_named (t ∷ ts) l k)
  named_same (t ∷ ts) (u ∷ us) k l = go (placed f g)
    where
      f : Term
      f = foremost t ts

      g : Term
      g = foremost u us

      before_g : ahead f g ≡ false
      before_g =
          held_behind f g (u ∷ us) (none_ahead u us) (l.all f.cre f.ann (foremost_of (λ x. D x.cre x.ann) t ts k.each))

      before_f : ahead g f ≡ false
      before_f =
          held_behind g f (t ∷ ts) (none_ahead t ts) (k.all g.cre g.ann (foremost_of (λ x. D x.cre x.ann) u us l.each))

      go : Placed f g → named (t ∷ ts) ≡ named (u ∷ us)
      go (first h) = absurd (true≢false (sym h ∙ before_g))
      go (alike p q) = ap₂ words p q
      go (second h) = absurd (true≢false (sym h ∙ before_f))

  module _ (ts : List Term) (k : Lists D ts) where
    -- equal: nothing differs
    pub none_named : named ts ≡ None → (c a : ℕ) → D c a → ⊥
    unfolding named
    none_named e c a d = go ts e (k.all c a d)
      where
        go : (us : List Term) → named us ≡ None → Held c a us → ⊥
        go [] q h = h
        go (u ∷ us) q h = cc

    module _ (d : Difference) (e : named ts ≡ Some d) where
      -- different: the words named differ, and none with fewer annihilations do
      pub named_differs : D d.bra d.ket
      unfolding named
      named_differs = go ts k.each e
        where
          go : (us : List Term) → Every (λ t. D t.cre t.ann) us → named us ≡ Some d → D d.bra d.ket
          go [] h q = cc
          go (u ∷ us) h q = subst (λ (x : Difference). D x.bra x.ket) (some_same q) (foremost_of (λ t. D t.cre t.ann) u us h)

      pub none_fewer : (c a : ℕ) → count 64 (bit a) < count 64 (bit d.ket) → D c a → ⊥
      unfolding named
      none_fewer c a f n = go ts (k.all c a n) e
        where
          word : Term
          word = record { cre = c; ann = a; coeff = pos 0 }

          go : (us : List Term) → Held c a us → named us ≡ Some d → ⊥
          go [] h q = h
          go (u ∷ us) h q =
              let l = subst (λ (x : Difference). count 64 (bit a) < count 64 (bit x.ket)) (sym (some_same q)) f in
              true≢false (sym (is_ahead word (foremost u us) (fewer l)) ∙ held_behind word (foremost u us) (u ∷ us) (none_ahead u us) h)
