-- A text of terms inside m modes, of at most 12 ladders each, is refused by nothing.
use mathlib.Core.Path.{◌≡◌, refl, ap₂, ◌∙◌}
use mathlib.Core.Bool.{Bool, true, false, cond}
use mathlib.Core.List.{List, [], ◌∷◌, ◌++◌, map}
use Prim.Native.Nat.{ℕ, zero, suc, ◌+◌, ◌^◌, ◌≤◌, ◌<◌}
use lib.Dec.{ltb}
use lib.ListN.{length, length-append}
use borrow.Author.Tests.{lt-ltb}
use Rattle.modes.specs.declared.Term.{Term}
use Rattle.modes.specs.Answers.{none as unrefused}
use Rattle.modes.specs.Counts.{count}
use Rattle.modes.specs.Every.{Every}
use Rattle.modes.specs.Terms.{creations, annihilations}
use Rattle.modes.specs.Words.{bit}
use Rattle.modes.proofs.Bools.{and_l, and_r}
use Rattle.modes.proofs.Digits.{bit_below}
use Rattle.modes.proofs.Every.{every_map}
use Rattle.products.specs.PhaseRule.{creating, annihilating}
use Rattle.record.specs.Canonical.{Inside}
use Rattle.lines.specs.Grammar.{Ladder}
use Rattle.lines.specs.Refusals.{all_below, text_refusal}
use Rattle.lines.proofs.Fine.{Fine, all_fine}
use Rattle.term_lines.specs.Written.{terms_text}
use Rattle.term_lines.specs.Ladders.{modes_ladders, line_of_term}
use Rattle.term_lines.proofs.Reading.{term_body, line_read_is, line_good, text_pieces}

-- every mode of a word inside m modes is below m
below_append : (m : ℕ) (xs ys : List Ladder) → all_below m xs ≡ true → all_below m ys ≡ true → all_below m (xs ++ ys) ≡ true
unfolding all_below
below_append m [] ys h k = k
below_append m (x ∷ xs) ys h k =
    rw (and_l (ltb x.mode m) (all_below m xs) h) (below_append m xs ys (and_r (ltb x.mode m) (all_below m xs) h) k)

modes_below : (m : ℕ) (needs : Bool) (k w : ℕ) → w < 2 ^ m → all_below m (modes_ladders needs k w) ≡ true
unfolding modes_ladders all_below
modes_below m needs zero w h = refl
modes_below m needs (suc p) w h =
    below_append m (modes_ladders needs p w) (cond (bit w p) (record { needs = needs; mode = p } ∷ []) []) (modes_below m needs p w h) (go (bit w p) refl)
  where
    go : (b : Bool) → bit w p ≡ b → all_below m (cond b (record { needs = needs; mode = p } ∷ []) []) ≡ true
    go true e = rw (lt-ltb p m (bit_below m w p h e))
    go false e = refl

-- as many ladders as modes
modes_count : (needs : Bool) (k w : ℕ) → length (modes_ladders needs k w) ≡ count k (bit w)
unfolding modes_ladders count
modes_count needs zero w = refl
modes_count needs (suc p) w =
    length-append {A = Ladder} (modes_ladders needs p w) (cond (bit w p) (record { needs = needs; mode = p } ∷ []) [])
    ∙ ap₂ (λ (x y : ℕ). x + y) (modes_count needs p w) (go (bit w p))
  where
    go : (b : Bool) → length {A = Ladder} (cond b (record { needs = needs; mode = p } ∷ []) []) ≡ cond b 1 0
    go true = refl
    go false = refl

pub ladders_count : (t : Term) → length (line_of_term t).ladders ≡ creations t + annihilations t
ladders_count t =
    length-append (modes_ladders creating 64 t.cre) (modes_ladders annihilating 64 t.ann)
    ∙ ap₂ (λ (x y : ℕ). x + y) (modes_count creating 64 t.cre) (modes_count annihilating 64 t.ann)

body_fine : (m : ℕ) (t : Term) → Inside m t × (creations t + annihilations t ≤ 12) → Fine m (term_body t)
body_fine m t h =
    record {
      good = line_good (line_of_term t);
      below =
          rw (line_read_is (line_of_term t))
          (below_append m (modes_ladders creating 64 t.cre) _ (modes_below m creating 64 t.cre h.0.cre) (modes_below m annihilating 64 t.ann h.0.ann));
      few = rw (line_read_is (line_of_term t), ladders_count t) h.1;
    }

-- THE TEXT of such terms is accepted
pub text_accepted : (m : ℕ) (ts : List Term) → Every (λ t. Inside m t × (creations t + annihilations t ≤ 12)) ts → text_refusal m (terms_text ts) ≡ unrefused
text_accepted m ts h = rw (text_pieces ts) (all_fine m 0 (map term_body ts) (every_map term_body ts (body_fine m) h))
