-- Pieces of a list: the first, and those after it.
use mathlib.Core.Path.{◌≡◌, refl, sym, ap, ◌∙◌}
use mathlib.Core.Bool.{Bool, true, false, cond}
use mathlib.Core.List.{List, [], ◌∷◌}
use Prim.Native.Nat.{ℕ, suc, ◌+◌, ◌-◌, ◌≤◌, ◌<◌}
use native.Mathlib.Nat.{sub-zero}
use native.Mathlib.Omega.{arith}
use lib.Dec.{eqb}
use lib.ListN.{length, get_or, take, drop, drop_of_length-le}
use lib.Seq.{drop-drop}
use borrow.Author.Tests.{eq-eqb, ne_eqb}
use Rattle.decimals.proofs.Numbers.{drop_next}
use Rattle.lines.specs.Grammar.{onto, pieces}
use Rattle.lines.specs.Reading.{front, rest}

-- THE PIECES are what stands before the first b, and the pieces after it
pub pieces_front : (b : ℕ) (l : List ℕ) → pieces b l ≡ front b l ∷ rest b (drop (length (front b l)) l)
unfolding pieces front rest onto
pieces_front b [] = refl
pieces_front b (x ∷ l) = go (eqb x b) (pieces_front b l)
  where
    go : (t : Bool) → pieces b l ≡ front b l ∷ rest b (drop (length (front b l)) l)
        → cond t ([] ∷ pieces b l) (onto x (pieces b l))
        ≡ cond t [] (x ∷ front b l) ∷ rest b (drop (length (cond t [] (x ∷ front b l))) (x ∷ l))
    go true e = refl
    go false e = ap (onto x) e

pub front_inside : (b : ℕ) (l : List ℕ) → length (front b l) ≤ length l
unfolding front
front_inside b [] = omega arith
front_inside b (x ∷ l) = go (eqb x b) (front_inside b l)
  where
    go : (t : Bool) → length (front b l) ≤ length l → length (cond t [] (x ∷ front b l)) ≤ suc (length l)
    go true h = omega arith
    go false h = omega arith

-- it stands at the front
front_at : (b : ℕ) (l : List ℕ) → take (length (front b l)) l ≡ front b l
unfolding front
front_at b [] = refl
front_at b (x ∷ l) = go (eqb x b) (front_at b l)
  where
    go : (t : Bool) → take (length (front b l)) l ≡ front b l → take (length (cond t [] (x ∷ front b l))) (x ∷ l) ≡ cond t [] (x ∷ front b l)
    go true e = refl
    go false e = ap (λ (k : List ℕ). x ∷ k) e

-- the piece from `at` to its end, and what follows it
module _ (b : ℕ) (l : List ℕ) (at end : ℕ) (e : end ≡ at + length (front b (drop at l))) where
  pub piece_is : take (end - at) (drop at l) ≡ front b (drop at l)
  piece_is = let far : end - at ≡ length (front b (drop at l)) = omega (arith, e) in rw far (front_at b (drop at l))

  pub pieces_from_is : pieces b (drop at l) ≡ take (end - at) (drop at l) ∷ rest b (drop end l)
  pieces_from_is =
      pieces_front b (drop at l)
      ∙ (λ i. sym piece_is i ∷ rest b ((drop-drop (length (front b (drop at l))) at l ∙ ap (λ (n : ℕ). drop n l) (sym e)) i))

-- the first piece
pub pieces_first : (b : ℕ) (l : List ℕ) (end : ℕ) → end ≡ 0 + length (front b l) → pieces b l ≡ take end l ∷ rest b (drop end l)
pieces_first b l end e = pieces_from_is b l 0 end e ∙ ap (λ (n : ℕ). take n l ∷ rest b (drop end l)) (sub-zero end)

-- the pieces after a byte that ended one
pub rest_next : (b : ℕ) (l : List ℕ) (end : ℕ) → end < length l → rest b (drop end l) ≡ pieces b (drop (end + 1) l)
unfolding rest
rest_next b l end h = ap (rest b) (drop_next l end h)

-- a field after the byte at `at`, up to `end`, and the fields after it
pub next_field : (b : ℕ) (l : List ℕ) (at end : ℕ) → at < length l → end ≡ (at + 1) + length (front b (drop (at + 1) l))
    → rest b (drop at l) ≡ take (end - (at + 1)) (drop (at + 1) l) ∷ rest b (drop end l)
next_field b l at end h e = rest_next b l at h ∙ pieces_from_is b l (at + 1) end e

pub rest_none : (b : ℕ) (l : List ℕ) (end : ℕ) → length l ≤ end → rest b (drop end l) ≡ []
unfolding rest
rest_none b l end h = ap (rest b) (drop_of_length-le l h)

-- a piece that starts at `at` is looked through as far as `end`
pub record Looking (b : ℕ) (l : List ℕ) (at end : ℕ) : Type 0 where
  pub inside : end ≤ length l
  pub far : end + length (front b (drop end l)) ≡ at + length (front b (drop at l))

module _ (b : ℕ) (l : List ℕ) (at end : ℕ) (g : Looking b l at end) where
  pub looking_goes : end < length l → (get_or l end 0 ≡ b → ⊥) → Looking b l at (end + 1)
  unfolding front
  looking_goes h n = record {
    inside = omega arith;
    far =
        let first : length (front b (drop end l)) ≡ suc (length (front b (drop (end + 1) l))) =
        ap (λ (k : List ℕ). length (front b k)) (drop_next l end h) ∙ rw (ne_eqb (get_or l end 0) b n) in
        omega (arith, first, g.far);
  }

  pub looking_found : end < length l → get_or l end 0 ≡ b → (end ≡ at + length (front b (drop at l))) × (end ≤ length l)
  unfolding front
  looking_found h e =
      let first : length (front b (drop end l)) ≡ 0 = ap (λ (k : List ℕ). length (front b k)) (drop_next l end h) ∙ rw (eq-eqb (get_or l end 0) b e) in
      (omega (arith, first, g.far), g.inside)

  pub looking_ends : length l ≤ end → (length l ≡ at + length (front b (drop at l))) × (length l ≤ length l)
  unfolding front
  looking_ends h =
      let none : length (front b (drop end l)) ≡ 0 = ap (λ (k : List ℕ). length (front b k)) (drop_of_length-le l h) in
      (omega (arith, none, g.far, g.inside), omega arith)
