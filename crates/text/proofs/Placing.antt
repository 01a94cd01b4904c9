-- Lines put to an output one after the other, as long as they fit.
use mathlib.Core.Path.{◌≡◌, refl, sym, ap, ◌∙◌}
use mathlib.Core.List.{List, [], ◌++◌, append_assoc, append-nil}
use Prim.Native.Nat.{ℕ, ◌+◌, ◌≤◌}
use native.Mathlib.Omega.{arith}
use lib.ListN.{length, take, drop, length-append}
use Rattle.modes.specs.declared.Term.{Term}
use Rattle.modes.proofs.Sums.{by_front, by_nothing}
use Rattle.lent.specs.Bytes.{put}
use Rattle.decimals.specs.Stores.{Stored}
use Rattle.decimals.proofs.Stores.{stored_none, stored_join, stored_inside, front_taken}
use Rattle.record.specs.Reading.{At}
use Rattle.term_lines.specs.Written.{term_text, terms_text}
use Rattle.text.specs.Placing.{PlacedText}
use Rattle.std.specs.Prelude.{None, Some}

-- ---- one line, made apart: `line` has it at its front

module _ (out : List ℕ) (at : ℕ) (text line line' : List ℕ) (n : ℕ) (g : Stored line 0 text line' n) where
  pub line_placed : at + n ≤ length out → (m : List ℕ) → m ≡ put out at (take n line') → PlacedText out at text m (Some (at + n))
  line_placed h m e =
      let is : n ≡ length text = omega (arith, g.ends) in
      let bytes = e ∙ ap (put out at) (ap (take n) g.bytes ∙ front_taken line text n is) in
      (omega arith, record { bytes = bytes; ends = ap (λ (k : ℕ). at + k) is })

-- ---- all lines: those of the terms before the i-th stand in m up to `end`

pub record Placing (out : List ℕ) (ts : List Term) (m : List ℕ) (end i : ℕ) : Type 0 where
  pub kept : length m ≡ length out
  pub done : List ℕ
  pub stored : Stored out 0 done m end
  pub whole : done ++ terms_text (drop i ts) ≡ terms_text ts

module _ (out : List ℕ) (ts : List Term) where
  pub placing_starts : Placing out ts out 0 0
  placing_starts = record { kept = refl; done = []; stored = stored_none out 0 (omega arith); whole = refl }

  module _ (m : List ℕ) (end i : ℕ) (g : Placing out ts m end i) where
    pub placing_inside : end ≤ length m
    placing_inside = stored_inside g.done (omega arith) g.stored

    -- no line is left
    pub placing_ends : drop i ts ≡ [] → PlacedText out 0 (terms_text ts) m (Some end)
    placing_ends e =
        let none : terms_text (drop i ts) ≡ [] = by_nothing ◌++◌ [] term_text e in
        let all : g.done ≡ terms_text ts = sym (append-nil g.done) ∙ ap (λ (x : List ℕ). g.done ++ x) (sym none) ∙ g.whole in
        let stands : Stored out 0 (terms_text ts) m end = rw (← all) g.stored in
        (omega (arith, stands.ends, placing_inside, g.kept), stands)

    module _ (t : Term) (at : At ts i t) where
      next_whole : (g.done ++ term_text t) ++ terms_text (drop (i + 1) ts) ≡ terms_text ts
      next_whole =
          append_assoc g.done (term_text t) (terms_text (drop (i + 1) ts)) ∙ ap (λ (x : List ℕ). g.done ++ x) (sym (by_front ◌++◌ [] term_text at)) ∙ g.whole

      -- one that does not fit
      pub placing_stops : (m' : List ℕ) → PlacedText m end (term_text t) m' None → PlacedText out 0 (terms_text ts) m' None
      placing_stops m' short =
          let parts = simp length-append at (ap length next_whole) in
          omega (arith, short, parts, g.stored.ends, g.kept)

      pub placing_goes : (m' : List ℕ) (to : ℕ) → PlacedText m end (term_text t) m' (Some to) → length m' ≡ length m → Placing out ts m' to (i + 1)
      placing_goes m' to k same =
          record {
            kept = same ∙ g.kept;
            done = g.done ++ term_text t;
            stored = stored_join g.done (term_text t) (omega arith) g.stored k.1;
            whole = next_whole;
          }
