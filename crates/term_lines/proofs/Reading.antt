-- A text of terms reads back: its lines are the terms, and it breaks no grammar.
use mathlib.Core.Path.{◌≡◌, refl, sym, ap, ap₂, ◌∙◌, fun_ext}
use mathlib.Core.Bool.{Bool, true, false, cond}
use mathlib.Core.List.{List, [], ◌∷◌, ◌++◌, map, map-map, append_assoc, append-nil}
use Prim.Native.Nat.{ℕ, zero, suc, ◌<◌}
use native.Mathlib.Omega.{arith}
use lib.IntN.{ℤ, pos, negsuc, nat_abs}
use Rattle.modes.specs.declared.Term.{Term}
use Rattle.modes.specs.Every.{Every, none, more}
use Rattle.modes.specs.Words.{bit}
use Rattle.modes.specs.Sums.{sum_by, list_of}
use Rattle.modes.proofs.Every.{every_append, every_last}
use Rattle.products.specs.PhaseRule.{creating, annihilating}
use Rattle.decimals.specs.Decimal.{decimal, field}
use Rattle.decimals.specs.Numbers.{is_number}
use Rattle.lines.specs.Grammar.{line_feed, space, minus, creates, annihilates, pieces, Ladder, is_ladder, ladder_of, all_ladders, magnitude_of, coefficient_of}
use Rattle.lines.specs.Grammar.{Line, is_line_of, line_from, is_line, line_of, ended, lines_of}
use Rattle.lines.specs.Refusals.{lines_refusal}
use Rattle.lines.specs.Spelling.{kind_byte, ladder_text, ladders_text}
use Rattle.lines.proofs.Joined.{Lacks, pieces_after, pieces_before, ended_before}
use Rattle.lines.proofs.Spelled.{number_lacks, ladder_read_is, ladder_good, plain_read, plain_good, minus_read, minus_good}
use Rattle.modes.specs.Answers.{number_in}
use Rattle.lines.proofs.Fine.{unbroken}
use Rattle.term_lines.specs.Written.{sign_text, modes_text, term_text, terms_text}
use Rattle.term_lines.specs.Ladders.{modes_ladders, line_of_term}

-- ---- a ladder

ladder_lacks : (b : ℕ) → b < 48 → (x : Ladder) → Lacks b (ladder_text x)
ladder_lacks b h x = every_last (decimal x.mode) (kind_byte x.needs) (number_lacks b x.mode h) (go x.needs)
  where
    go : (needs : Bool) → kind_byte needs ≡ b → ⊥
    go true e = absurd (omega arith)
    go false e = absurd (omega arith)

ladder_back : (x : Ladder) → (ladder_of (ladder_text x) ≡ x) × (is_ladder (ladder_text x) ≡ true)
ladder_back x = go x.needs
  where
    go : (needs : Bool)
        → (ladder_of (field x.mode (kind_byte needs)) ≡ record { needs = needs; mode = x.mode }) × (is_ladder (field x.mode (kind_byte needs)) ≡ true)
    go true = (ladder_read_is x.mode annihilates, ladder_good x.mode annihilates refl)
    go false = (ladder_read_is x.mode creates, ladder_good x.mode creates refl)

ladders_back : (xs : List Ladder) → (map ladder_of (map ladder_text xs) ≡ xs) × (all_ladders (map ladder_text xs) ≡ true)
unfolding all_ladders
ladders_back [] = (refl, refl)
ladders_back (x ∷ xs) =
    let first = ladder_back x in
    let later = ladders_back xs in
    (ap₂ {C = List Ladder} (λ (y : Ladder) (ys : List Ladder). y ∷ ys) first.0 later.0, rw first.1 later.1)

-- ---- ladders, each after a space

ladders_append : (xs ys : List Ladder) → ladders_text (xs ++ ys) ≡ ladders_text xs ++ ladders_text ys
unfolding sum_by
ladders_append [] ys = refl
ladders_append (x ∷ xs) ys =
    ap (λ (l : List ℕ). (space ∷ ladder_text x) ++ l) (ladders_append xs ys) ∙ rw (← append_assoc (space ∷ ladder_text x) (ladders_text xs) (ladders_text ys))

modes_text_is : (needs : Bool) (k w : ℕ) → modes_text (kind_byte needs) k w ≡ ladders_text (modes_ladders needs k w)
unfolding modes_text modes_ladders sum_by
modes_text_is needs zero w = refl
modes_text_is needs (suc p) w =
    ap (λ (l : List ℕ). l ++ cond (bit w p) (space ∷ field p (kind_byte needs)) []) (modes_text_is needs p w) ∙ go (bit w p)
  where
    lower : List Ladder
    lower = modes_ladders needs p w

    go : (b : Bool) → ladders_text lower ++ cond b (space ∷ field p (kind_byte needs)) [] ≡ ladders_text (lower ++ cond b (record { needs = needs; mode = p } ∷ []) [])
    go true =
        let one : Ladder = record { needs = needs; mode = p } in
        ap (λ (l : List ℕ). ladders_text lower ++ l) (sym (append-nil (space ∷ ladder_text one))) ∙ sym (ladders_append lower (one ∷ []))
    go false = sym (ladders_append lower [])

ladders_lack : (xs : List Ladder) → Lacks line_feed (ladders_text xs)
unfolding sum_by
ladders_lack [] = none
ladders_lack (x ∷ xs) =
    every_append (space ∷ ladder_text x) (ladders_text xs) (more (λ e. absurd (omega arith)) (ladder_lacks line_feed (omega arith) x)) (ladders_lack xs)

-- ---- a coefficient

abbrev coefficient_text : ℤ → List ℕ
coefficient_text z = sign_text z ++ decimal (nat_abs z)

coefficient_lacks : (b : ℕ) → b < 45 → (z : ℤ) → Lacks b (coefficient_text z)
coefficient_lacks b h (pos n) = number_lacks b n (omega arith)
coefficient_lacks b h (negsuc n) = more {x = minus} (λ (e : minus ≡ b). absurd (omega arith)) (number_lacks b (suc n) (omega arith))

coefficient_back : (z : ℤ) → (coefficient_of (coefficient_text z) ≡ z) × (is_number (magnitude_of (coefficient_text z)) ≡ true)
coefficient_back (pos n) = (plain_read n, plain_good n)
coefficient_back (negsuc n) = (minus_read (suc n), minus_good (suc n))

-- ---- a line without its line feed

abbrev pub body_of : Line → List ℕ
body_of x = coefficient_text x.coeff ++ ladders_text x.ladders

abbrev pub term_body : Term → List ℕ
term_body t = body_of (line_of_term t)

term_body_is : (t : Term) → term_text t ≡ term_body t ++ (line_feed ∷ [])
unfolding term_text
term_body_is t =
    rw (modes_text_is creating 64 t.cre, modes_text_is annihilating 64 t.ann, ladders_append (modes_ladders creating 64 t.cre) (modes_ladders annihilating 64 t.ann))
    (simp append_assoc)

body_lacks : (x : Line) → Lacks line_feed (body_of x)
body_lacks x = every_append (coefficient_text x.coeff) _ (coefficient_lacks line_feed (omega arith) x.coeff) (ladders_lack x.ladders)

body_pieces : (x : Line) → pieces space (body_of x) ≡ coefficient_text x.coeff ∷ map ladder_text x.ladders
body_pieces x =
    pieces_after space ladder_text (ladder_lacks space (omega arith)) (coefficient_text x.coeff) x.ladders (coefficient_lacks space (omega arith) x.coeff)

-- EVERY LINE as it is written is a line, and reads as what was written
pub line_read_is : (x : Line) → line_of (body_of x) ≡ x
unfolding line_from
line_read_is x = ap line_from (body_pieces x) ∙ rw ((coefficient_back x.coeff).0, (ladders_back x.ladders).0)

pub line_good : (x : Line) → is_line (body_of x) ≡ true
unfolding is_line_of
line_good x = ap is_line_of (body_pieces x) ∙ rw (coefficient_back x.coeff).1 (ladders_back x.ladders).1

-- ---- all lines

pub text_pieces : (ts : List Term) → pieces line_feed (terms_text ts) ≡ map term_body ts ++ ([] ∷ [])
text_pieces ts =
    ap (λ (f : Term → List ℕ). pieces line_feed (list_of f ts)) (fun_ext term_body_is) ∙ pieces_before line_feed term_body (λ t. body_lacks (line_of_term t)) ts

-- THE TEXT of terms reads as their lines
pub text_read : (ts : List Term) → lines_of (terms_text ts) ≡ map line_of_term ts
text_read ts =
    ap (λ (ls : List (List ℕ)). map line_of (ended ls)) (text_pieces ts) ∙ ap (map line_of) (ended_before (map term_body ts)) ∙ map-map line_of term_body ts
    ∙ ap (λ (f : Term → Line). map f ts) (fun_ext (λ t. line_read_is (line_of_term t)))

every_good : (ts : List Term) → Every (λ l. is_line l ≡ true) (map term_body ts)
every_good [] = none
every_good (t ∷ ts) = more (line_good (line_of_term t)) (every_good ts)

-- and breaks no grammar: 16 never refuses it
pub text_unbroken : (m i : ℕ) (ts : List Term) → number_in (lines_refusal m i (pieces line_feed (terms_text ts))) ≡ 16 → ⊥
text_unbroken m i ts = rw (text_pieces ts) (unbroken m i (map term_body ts) (every_good ts)).not
