-- The pieces of texts that are put together: parts with a byte before each but the first, and parts with a byte after each.
use mathlib.Core.Path.{◌≡◌, refl, ap, ◌∙◌}
use mathlib.Core.List.{List, [], ◌∷◌, ◌++◌, map, append_assoc, append-nil}
use Prim.Native.Nat.{ℕ}
use borrow.Author.Tests.{eq-eqb, ne_eqb}
use Rattle.modes.specs.Every.{Every, none, more}
use Rattle.modes.specs.Sums.{sum_by, list_of}
use Rattle.lines.specs.Grammar.{onto, pieces, ended}

-- the byte b is not in l
abbrev pub Lacks : ℕ → List ℕ → Type 0
Lacks b l = Every (λ x. x ≡ b → ⊥) l

-- one piece, and what follows the byte at its end
pub pieces_joined : (b : ℕ) (p l : List ℕ) → Lacks b p → pieces b (p ++ (b ∷ l)) ≡ p ∷ pieces b l
unfolding pieces onto
pieces_joined b [] l none = rw (eq-eqb b b refl)
pieces_joined b (x ∷ p) l (more h hs) = rw (ne_eqb x b h, pieces_joined b p l hs)

pub pieces_one : (b : ℕ) (p : List ℕ) → Lacks b p → pieces b p ≡ p ∷ []
unfolding pieces onto
pieces_one b [] none = refl
pieces_one b (x ∷ p) (more h hs) = rw (ne_eqb x b h, pieces_one b p hs)

module _ {A : Type 0} (b : ℕ) (f : A → List ℕ) (lacks : (x : A) → Lacks b (f x)) where
  -- a first part, and parts with b before each
  pub pieces_after : (p : List ℕ) (xs : List A) → Lacks b p → pieces b (p ++ list_of (λ x. b ∷ f x) xs) ≡ p ∷ map f xs
  unfolding sum_by
  pieces_after p [] h = rw (append-nil p) (pieces_one b p h)
  pieces_after p (x ∷ xs) h =
      pieces_joined b p (f x ++ list_of (λ y. b ∷ f y) xs) h ∙ ap (λ (ls : List (List ℕ)). p ∷ ls) (pieces_after (f x) xs (lacks x))

  -- parts with b after each: nothing stands after the last b
  pub pieces_before : (xs : List A) → pieces b (list_of (λ x. f x ++ (b ∷ [])) xs) ≡ map f xs ++ ([] ∷ [])
  unfolding sum_by pieces
  pieces_before [] = refl
  pieces_before (x ∷ xs) =
      let rest = list_of (λ y. f y ++ (b ∷ [])) xs in
      ap (pieces b) (append_assoc (f x) (b ∷ []) rest) ∙ pieces_joined b (f x) rest (lacks x) ∙ ap (λ (ls : List (List ℕ)). f x ∷ ls) (pieces_before xs)

pub ended_before : (ls : List (List ℕ)) → ended (ls ++ ([] ∷ [])) ≡ ls
unfolding ended
ended_before [] = refl
ended_before (l ∷ []) = refl
ended_before (l ∷ k ∷ ls) = ap (λ (ks : List (List ℕ)). l ∷ ks) (ended_before (k ∷ ls))
