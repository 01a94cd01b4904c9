-- The walk that finds what the terms have in common.
use mathlib.Core.Path.{◌≡◌, refl, sym, ap, ◌∙◌}
use mathlib.Core.Bool.{Bool, true, ◌&&◌, ◌||◌, and-true, and_assoc, or_assoc}
use mathlib.Core.List.{List, [], ◌∷◌}
use Prim.Native.Nat.{ℕ, max}
use native.Mathlib.Omega.{arith}
use native.Mathlib.Nat.{max-zero, zero-max}
use lib.Bits.{bit_or, or_zero_l, or_zero_r}
use Rattle.std.specs.Prelude.{Ok, Err}
use Rattle.modes.specs.declared.Refusal.{Refusal}
use Rattle.modes.proofs.Refusals.{unless_not, unless_so}
use Rattle.record.specs.Operands.{read_as}
use Rattle.modes.specs.Words.{bit}
use Rattle.modes.specs.declared.Term.{Term}
use Rattle.modes.proofs.Digits.{bit_of_or, ext}
use Rattle.figures.specs.Figures.{conserves, conserving, rank_of, largest_rank, all_modes, figures_of, figures_in}
use Rattle.record.specs.Layout.{terms_in}
use Rattle.record.specs.Refusals.{refusal_of, checked_of}
use Rattle.figures.specs.declared.Figures.{Figures}
use Rattle.record.specs.declared.Checked.{Checked}
use Rattle.record.proofs.Accepted.{Accepted, refused}

union_assoc : (a b c : ℕ) → bit_or (bit_or a b) c ≡ bit_or a (bit_or b c)
union_assoc a b c =
    ext _ _ (λ p.
    bit_of_or (bit_or a b) c p ∙ ap (λ (x : Bool). x || bit c p) (bit_of_or a b p) ∙ or_assoc (bit a p) (bit b p) (bit c p)
    ∙ sym (bit_of_or a (bit_or b c) p ∙ ap (λ (x : Bool). bit a p || x) (bit_of_or b c p)))

-- what is found so far, with what is left, makes the whole
pub record Surveying (ts left : List Term) (c : Bool) (r m : ℕ) : Type 0 where
  pub conserving : c && conserving left ≡ conserving ts
  pub rank : max r (largest_rank left) ≡ largest_rank ts
  pub modes : bit_or m (all_modes left) ≡ all_modes ts

pub survey_starts : (ts : List Term) → Surveying ts ts true 0 0
survey_starts ts = record { conserving = refl; rank = zero-max (largest_rank ts); modes = or_zero_l (all_modes ts) }

pub survey_goes : (ts left rest : List Term) (t : Term) → left ≡ t ∷ rest → (c d : Bool) (r s m : ℕ) → Surveying ts left c r m
    → d ≡ conserves t → s ≡ max r (rank_of t) → Surveying ts rest (c && d) s (bit_or m (bit_or t.cre t.ann))
unfolding conserving largest_rank all_modes
survey_goes ts left rest t e c d r s m g ed es =
    record {
      conserving = rw (ed, and_assoc) (rw e at g.conserving);
      rank = rw es (top ∙ (rw e at g.rank));
      modes = rw union_assoc (rw e at g.modes);
    }
  where
    top : max (max r (rank_of t)) (largest_rank rest) ≡ max r (max (rank_of t) (largest_rank rest))
    top = omega arith

pub survey_ends : (ts left : List Term) → left ≡ [] → (c : Bool) (r m : ℕ) → Surveying ts left c r m
    → ◌≡◌ {A = Figures} (record { conserving = c; rank = r; modes = m }) (figures_in ts)
unfolding conserving largest_rank all_modes
survey_ends ts left e c r m g =
    let a : c ≡ conserving ts = sym (and-true c) ∙ (rw e at g.conserving) in
    let b : r ≡ largest_rank ts = sym (max-zero r) ∙ (rw e at g.rank) in
    let d : m ≡ all_modes ts = sym (or_zero_r m) ∙ (rw e at g.modes) in
    rw (a, b, d)

pub survey_refused : (l : List ℕ) (r : Refusal) → Err r ≡ checked_of 1 l → Err r ≡ figures_of (read_as 1 l)
survey_refused l r e = sym (unless_so (refusal_of 1 l) Err _ r (refused 1 l r e))

pub survey_accepted : (l : List ℕ) (c : Checked) (f : Figures) → Accepted 1 l c → f ≡ figures_in (terms_in l c.terms) → Ok f ≡ figures_of (read_as 1 l)
survey_accepted l c f k e = rw (e, k.terms) (sym (unless_not (refusal_of 1 l) Err _ k.fine))
