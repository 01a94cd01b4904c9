-- Nothing else is a line: whatever the grammar takes for one is a line as it is written, after a minus or none.
use mathlib.Core.Path.{◌≡◌, refl, sym, ap, ap₂, ◌∙◌}
use mathlib.Core.Bool.{Bool, true, false, cond, ◌||◌, true≢false}
use mathlib.Core.List.{List, [], ◌∷◌, ◌++◌, map, append_assoc}
use Prim.Native.Nat.{ℕ, suc, ◌-◌, ◌≤◌}
use native.Mathlib.Omega.{arith}
use lib.Dec.{eqb}
use lib.IntN.{pos, nat_abs}
use lib.ListN.{length, take, drop}
use lib.Seq.{take-suc, take-length}
use borrow.Author.Tests.{eqb-true}
use Rattle.modes.specs.Sums.{sum_by, list_of}
use Rattle.modes.proofs.Bools.{and_l, and_r}
use Rattle.products.proofs.Signs.{abs_signed}
use Rattle.decimals.specs.Decimal.{decimal, read_on}
use Rattle.decimals.specs.Numbers.{is_number, starts_well}
use Rattle.decimals.proofs.Written.{number_written}
use Rattle.lines.specs.Grammar.{space, minus, creates, annihilates, onto, pieces, kind_of, mode_of, is_ladder, ladder_of, all_ladders}
use Rattle.lines.specs.Grammar.{is_minus, magnitude_of, coefficient_of, is_line_of, line_from, is_line, line_of}
use Rattle.lines.specs.Spelling.{kind_byte, ladder_text, ladders_text, Spelled}
use Rattle.lines.proofs.Pieces.{pieces_front}
use Rattle.lines.proofs.Fields.{minus_first}

-- ---- pieces, put together again

abbrev joined : ℕ → List (List ℕ) → List ℕ
joined b [] = []
joined b (p ∷ ps) = p ++ list_of (λ q. b ∷ q) ps

joined_onto : (b x : ℕ) (ps : List (List ℕ)) → joined b (onto x ps) ≡ x ∷ joined b ps
unfolding onto sum_by
joined_onto b x [] = refl
joined_onto b x (p ∷ ps) = refl

joined_next : (b : ℕ) (ps qs : List (List ℕ)) (p : List ℕ) → ps ≡ p ∷ qs → joined b ([] ∷ ps) ≡ b ∷ joined b ps
unfolding sum_by
joined_next b ps qs p e = rw e

pieces_back : (b : ℕ) (l : List ℕ) → joined b (pieces b l) ≡ l
unfolding pieces sum_by
pieces_back b [] = refl
pieces_back b (x ∷ l) = go (pieces_back b l) (eqb x b) refl
  where
    go : joined b (pieces b l) ≡ l → (t : Bool) → eqb x b ≡ t → joined b (cond t ([] ∷ pieces b l) (onto x (pieces b l))) ≡ x ∷ l
    go rec true e = joined_next b (pieces b l) _ _ (pieces_front b l) ∙ ap₂ (λ (y : ℕ) (k : List ℕ). y ∷ k) (sym (eqb-true x b e)) rec
    go rec false e = joined_onto b x (pieces b l) ∙ ap (λ (k : List ℕ). x ∷ k) rec

-- ---- a ladder

some_bytes : (l : List ℕ) → is_number (mode_of l) ≡ true → 1 ≤ length l
unfolding starts_well
some_bytes [] e = absurd (true≢false (sym e))
some_bytes (x ∷ l) e = omega arith

ends_with : (l : List ℕ) → 1 ≤ length l → mode_of l ++ (kind_of l ∷ []) ≡ l
ends_with l h =
    let whole : suc (length l - 1) ≡ length l = omega arith in
    sym (take-suc l (length l - 1) 0 (omega arith)) ∙ ap (λ (n : ℕ). take n l) whole ∙ take-length l

kind_told : (k : ℕ) → (eqb k creates || eqb k annihilates) ≡ true → kind_byte (eqb k annihilates) ≡ k
kind_told k e = go (eqb k annihilates) refl
  where
    go : (t : Bool) → eqb k annihilates ≡ t → kind_byte t ≡ k
    go true q = sym (eqb-true k annihilates q)
    go false q = sym (eqb-true k creates (only (eqb k creates) (ap (λ (b : Bool). eqb k creates || b) (sym q) ∙ e)))
      where
        only : (b : Bool) → b || false ≡ true → b ≡ true
        only true h = refl
        only false h = h

ladder_written : (l : List ℕ) → is_ladder l ≡ true → ladder_text (ladder_of l) ≡ l
unfolding is_ladder ladder_of
ladder_written l e =
    let number = and_l (is_number (mode_of l)) (eqb (kind_of l) creates || eqb (kind_of l) annihilates) e in
    let kind = and_r (is_number (mode_of l)) (eqb (kind_of l) creates || eqb (kind_of l) annihilates) e in
    rw (number_written (mode_of l) number, kind_told (kind_of l) kind) (ends_with l (some_bytes l number))

ladders_written : (ls : List (List ℕ)) → all_ladders ls ≡ true → ladders_text (map ladder_of ls) ≡ list_of (λ q. space ∷ q) ls
unfolding all_ladders sum_by
ladders_written [] e = refl
ladders_written (l ∷ ls) e =
    ap₂ (λ (x y : List ℕ). (space ∷ x) ++ y) (ladder_written l (and_l (is_ladder l) (all_ladders ls) e))
    (ladders_written ls (and_r (is_ladder l) (all_ladders ls) e))

-- ---- a coefficient

minus_then : (l : List ℕ) → is_minus l ≡ true → minus ∷ drop 1 l ≡ l
minus_then [] e = absurd (omega (arith, minus_first [] e))
minus_then (x ∷ l) e = ap (λ (y : ℕ). y ∷ l) (sym (eqb-true x minus e))

coefficient_written : (l : List ℕ) → is_number (magnitude_of l) ≡ true → cond (is_minus l) (minus ∷ []) [] ++ decimal (nat_abs (coefficient_of l)) ≡ l
unfolding coefficient_of magnitude_of
coefficient_written l e =
    rw (abs_signed (is_minus l) (pos (read_on 0 (cond (is_minus l) (drop 1 l) l))), number_written (cond (is_minus l) (drop 1 l) l) e) (go (is_minus l) refl)
  where
    go : (t : Bool) → is_minus l ≡ t → cond t (minus ∷ []) [] ++ cond t (drop 1 l) l ≡ l
    go true q = minus_then l q
    go false q = refl

-- ---- a line

fields_written : (ls : List (List ℕ)) → is_line_of ls ≡ true → Spelled (joined space ls) (line_from ls)
unfolding is_line_of line_from
fields_written [] e = absurd (true≢false (sym e))
fields_written (l ∷ ls) e =
    let number = and_l (is_number (magnitude_of l)) (all_ladders ls) e in
    let ladders = and_r (is_number (magnitude_of l)) (all_ladders ls) e in
    let sign = cond (is_minus l) (minus ∷ []) [] in
    record {
      signed = is_minus l;
      is = sym (ap₂ (λ (x y : List ℕ). x ++ y) (coefficient_written l number) (ladders_written ls ladders))
          ∙ append_assoc sign (decimal (nat_abs (coefficient_of l))) (ladders_text (map ladder_of ls));
    }

-- NOTHING ELSE is a line
pub nothing_else : (l : List ℕ) → is_line l ≡ true → Spelled l (line_of l)
nothing_else l e = let spelled = fields_written (pieces space l) e in record { signed = spelled.signed; is = sym (pieces_back space l) ∙ spelled.is }
