-- What is seen of the terms, from one to the next.
use Rattle.std.proofs.Common.{◌≡◌, ℕ, suc, ◌+◌, ◌%◌, ◌^◌, ◌<◌, ◌≤◌, Bool, true, false, not, ◌&&◌, None, eqb, leb, List, ◌∷◌, drop, nat_abs, sym, refl, ◌∙◌, true≢false, mod-eq_of_lt, add-one, arith, lt-ltb, ne_eqb, le-leb, leb-true}
use lib.Bits.{bit_or, or_lt, or_add_and, and_le_l, and_le_r}
use borrow.Author.Tests.{eqb-false, not-true}
use Rattle.modes.specs.declared.Term.{Term}
use Rattle.modes.specs.Answers.{Verdict, none}
use Rattle.modes.specs.Refusals.{or_else}
use Rattle.modes.specs.Spaces.{inside}
use Rattle.modes.proofs.Bools.{and_l, and_r}
use Rattle.modes.proofs.Refusals.{or_first, or_second}
use Rattle.record.specs.Terms.{before, weight}
use Rattle.record.specs.Reading.{At}
use Rattle.record.specs.Refusals.{term_refusal, terms_refusal}
use Rattle.record.proofs.Refusals.{right_term}
use Rattle.record.proofs.Accepted.{abs_zero, Right, term_right}
use Rattle.record.proofs.Checking.{weight_front}
use Rattle.tally.specs.Walks.{comes_after, takes_next, seen_with, Seeing, Refuses}
use Rattle.tally.specs.declared.Seen.{Seen}

-- a union is at least each of its words
or_left : (x y : ℕ) → x ≤ bit_or x y
or_left x y = omega (arith, or_add_and x y, and_le_r x y)

or_right : (x y : ℕ) → y ≤ bit_or x y
or_right x y = omega (arith, or_add_and x y, and_le_l x y)

-- the refusal of terms, of which t is the first
front : (m i : ℕ) (up : Term → Bool) (ts us : List Term) (t : Term) → ts ≡ t ∷ us
    → terms_refusal 1 m i up ts ≡ or_else (term_refusal 1 m i (up t) t) (terms_refusal 1 m (suc i) (before t) us)
unfolding terms_refusal
front m i up ts us t e = rw e

-- ---- from term to term

module _ (m : ℕ) (ts : List Term) where
  pub seeing_starts : Seeing m ts (record { last = None; weight = 0; bits = 0 }) 0
  seeing_starts = record { rest = refl; held = omega arith; exact = λ h. omega arith; low = λ h. omega arith }

  module _ (s : Seen) (i : ℕ) (g : Seeing m ts s i) where
    -- what refuses the next term refuses them all
    pub next_refuses : (r : Verdict) → Refuses m ts s i r → (r ≡ none → ⊥) → terms_refusal 1 m 0 (λ _. true) ts ≡ r
    next_refuses r h some = g.rest ∙ front m i _ _ _ h.term h.at ∙ rw (← h.is) (or_first r _ some)

    module _ (t : Term) (at : At ts i t) (k : ℕ) (is : (k ≡ nat_abs t.coeff) × (k ≤ 2 ^ 63)) where
      abbrev up : Bool
      up = comes_after s t

      abbrev now : ℕ
      now = (s.weight + k) % 2 ^ 64

      abbrev next : Seen
      next = seen_with t k s

      split : weight (drop i ts) ≡ k + weight (drop (i + 1) ts)
      split = weight_front _ _ t at ∙ rw is.0

      step : s.bits < 2 ^ 61 → now ≡ s.weight + k
      step h = mod-eq_of_lt (omega (arith, g.held, is.1))

      -- no sum so far wrapped, nor does this one
      sum : next.bits < 2 ^ 61 → next.weight + weight (drop (i + 1) ts) ≡ weight ts
      sum h = let below : s.bits < 2 ^ 61 = omega (arith, or_left s.bits now) in omega (arith, step below, split, g.exact below)

      stays_low : weight ts ≤ 2 ^ 60 → next.bits < 2 ^ 61
      stays_low h = let below = g.low h in or_lt 61 s.bits now below (omega (arith, step below, split, g.exact below))

      -- top is the word of all modes, and b tells whether the term is taken
      module _ (top : ℕ) (full : top + 1 ≡ 2 ^ m) (b : Bool) (told : b ≡ takes_next top t k s) where
        -- one that is not is refused
        pub untaken_refused : b ≡ false → (r : Verdict) → Refuses m ts s i r → r ≡ none → ⊥
        untaken_refused out r h z =
            let same : h.term ≡ t = cc in
            let right : Right m up t = term_right 1 m i up t (rw (← same, ← h.is) z) in
            let some = ne_eqb k 0 (λ e. right.nonzero (abs_zero t.coeff (sym is.0 ∙ e))) in
            let cre = le-leb t.cre top (omega (arith, full, right.inside.cre)) in
            let ann = le-leb t.ann top (omega (arith, full, right.inside.ann)) in
            let yes : takes_next top t k s ≡ true = rw (some, cre, ann, right.above) in
            true≢false (sym yes ∙ sym told ∙ out)

        -- and one that is, is not
        module _ (yes : b ≡ true) where
          all : takes_next top t k s ≡ true
          all = sym told ∙ yes

          words : leb t.cre top && (leb t.ann top && up) ≡ true
          words = and_r (not (eqb k 0)) _ all

          rest : leb t.ann top && up ≡ true
          rest = and_r (leb t.cre top) _ words

          fits : inside m t.cre t.ann ≡ true
          unfolding inside
          fits =
              let cre = leb-true t.cre top (and_l (leb t.cre top) _ words) in
              let ann = leb-true t.ann top (and_l (leb t.ann top) up rest) in
              rw (lt-ltb t.ann (2 ^ m) (omega (arith, full, ann)), lt-ltb t.cre (2 ^ m) (omega (arith, full, cre)))

          some : nat_abs t.coeff ≡ 0 → ⊥
          some z = eqb-false k 0 (not-true _ (and_l (not (eqb k 0)) _ all)) (is.0 ∙ z)

          further : terms_refusal 1 m 0 (λ _. true) ts ≡ terms_refusal 1 m (i + 1) (before t) (drop (i + 1) ts)
          further =
              let judged : none ≡ term_refusal 1 m i up t = right_term 1 m i up t fits (and_r (leb t.ann top) up rest) some in
              g.rest ∙ front m i _ _ _ t at ∙ or_second (term_refusal 1 m i up t) _ (sym judged) ∙ rw add-one

          pub seeing_goes : (u : Seen) → u ≡ next → Seeing m ts u (i + 1)
          seeing_goes u e = rw e (record { rest = further; held = or_right s.bits now; exact = sum; low = stays_low })
