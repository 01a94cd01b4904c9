-- A text of terms has the terms' elements, and so it tells the record that it was made of.
use mathlib.Core.Path.{◌≡◌, refl, sym, ap, ◌∙◌, subst, fun_ext}
use mathlib.Core.Bool.{Bool, true, false, cond}
use mathlib.Core.List.{List, [], ◌∷◌, ◌++◌}
use Prim.Native.Nat.{ℕ, zero, suc}
use lib.IntN.{ℤ}
use Rattle.modes.specs.Answers.{none}
use Rattle.modes.specs.declared.Term.{Term}
use Rattle.modes.specs.Words.{bit}
use Rattle.modes.specs.Sums.{sum_of}
use Rattle.modes.proofs.Sums.{sum_map}
use Rattle.products.specs.PhaseRule.{Outcome, went, creating, annihilating, ladder, ladders, term}
use Rattle.products.specs.Operators.{adds, element}
use Rattle.record.specs.Canonical.{Canonical}
use Rattle.record.specs.Layout.{modes_of, terms_of}
use Rattle.record.specs.Refusals.{refusal_of}
use Rattle.record.proofs.Accepted.{accepted_canonical}
use Rattle.record.proofs.Inverse.{Small, same_bytes}
use Rattle.record.proofs.SameElements.{same_elements}
use Rattle.lines.specs.Grammar.{Ladder, lines_of}
use Rattle.expand.specs.Meaning.{ladders_on, line_adds, lines_element}
use Rattle.term_lines.specs.Written.{terms_text}
use Rattle.term_lines.specs.Ladders.{modes_ladders, line_of_term}
use Rattle.term_lines.proofs.Reading.{text_read}

-- ladders one after the other: the later ones act first
on_append : (xs ys : List Ladder) (o : Outcome) → ladders_on (xs ++ ys) o ≡ ladders_on xs (ladders_on ys o)
unfolding ladders_on
on_append [] ys o = refl
on_append (x ∷ xs) ys o = ap (ladder x.needs x.mode) (on_append xs ys o)

-- a word's ladders act as in the phase rule, the highest mode first
modes_act : (needs : Bool) (k w : ℕ) (o : Outcome) → ladders_on (modes_ladders needs k w) o ≡ ladders needs k w o
unfolding modes_ladders ladders ladders_on
modes_act needs zero w o = refl
modes_act needs (suc p) w o =
    on_append (modes_ladders needs p w) (cond (bit w p) (one ∷ []) []) o ∙ ap (ladders_on (modes_ladders needs p w)) (go (bit w p))
    ∙ modes_act needs p w (cond (bit w p) (ladder needs p o) o)
  where
    one : Ladder
    one = record { needs = needs; mode = p }

    go : (b : Bool) → ladders_on (cond b (one ∷ []) []) o ≡ cond b (ladder needs p o) o
    go true = refl
    go false = refl

pub ladders_are_term : (t : Term) (o : Outcome) → ladders_on (line_of_term t).ladders o ≡ term t.cre t.ann o
unfolding term
ladders_are_term t o =
    on_append (modes_ladders creating 64 t.cre) (modes_ladders annihilating 64 t.ann) o
    ∙ ap (ladders_on (modes_ladders creating 64 t.cre)) (modes_act annihilating 64 t.ann o)
    ∙ modes_act creating 64 t.cre (ladders annihilating 64 t.ann o)

-- THE TEXT of terms has their elements
pub text_elements : (bra ket : ℕ) (ts : List Term) → lines_element bra ket (lines_of (terms_text ts)) ≡ element bra ket ts
text_elements bra ket ts =
    ap (lines_element bra ket) (text_read ts) ∙ sum_map (line_adds bra ket) line_of_term ts
    ∙ ap (λ (f : Term → ℤ). sum_of f ts) (fun_ext (λ t. ap (adds bra t.coeff) (ladders_are_term t (went ket false))))

-- THE TEXT TELLS THE RECORD: two accepted records on one number of modes with one text are the same bytes
pub same_text : (o p : ℕ) (a b : List ℕ) → Small a → Small b → refusal_of o a ≡ none → refusal_of p b ≡ none → modes_of a ≡ modes_of b
    → terms_text (terms_of a) ≡ terms_text (terms_of b) → a ≡ b
same_text o p a b small_a small_b ea eb m e =
    let of_b : Canonical (modes_of a) (terms_of b) = subst (λ (n : ℕ). Canonical n (terms_of b)) (sym m) (accepted_canonical p b eb) in
    same_bytes o p a b small_a small_b ea eb m (same_elements (modes_of a) (terms_of a) (terms_of b) (accepted_canonical o a ea) of_b
    (λ bra ket hb hk. sym (text_elements bra ket (terms_of a)) ∙ ap (λ (text : List ℕ). lines_element bra ket (lines_of text)) e ∙ text_elements bra ket (terms_of b)))
