-- A list of the values of a function at the indices below n.
use mathlib.Core.Path.{◌≡◌, refl, sym, ◌∙◌}
use mathlib.Core.List.{List, [], ◌∷◌, ◌++◌}
use mathlib.Core.Logic.{◌⊎◌, inl, inr}
use Prim.Native.Nat.{ℕ, zero, suc, ◌≤◌, ◌<◌}
use native.Mathlib.Omega.{arith}
use lib.ListN.{length, length-append, get_or-append, get_or-eq_default}
use lib.Seq.{ext_get_or, get_or_at}
use Rattle.modes.specs.declared.Term.{Term}
use Rattle.modes.specs.Every.{Every, none, more}
use Rattle.places.specs.Terms.{at, up_to}
use Rattle.places.proofs.Choices.{same_or}

length_up_to : (f : ℕ → Term) (n : ℕ) → length (up_to f n) ≡ n
unfolding up_to
length_up_to f zero = refl
length_up_to f (suc n) = simp (length-append, length_up_to f n) (omega arith)

pub at_up_to : (f : ℕ → Term) (n k : ℕ) → k < n → at (up_to f n) k ≡ f k
unfolding up_to at
at_up_to f zero k h = absurd (omega arith)
at_up_to f (suc n) k h = go (same_or k n) (at_up_to f n k)
  where
    go : (k ≡ n) ⊎ (k ≡ n → ⊥) → (k < n → at (up_to f n) k ≡ f k) → at (up_to f n ++ (f n ∷ [])) k ≡ f k
    go (inl e) r = rw e (get_or_at (up_to f n) (f n) [] _ n (length_up_to f n))
    go (inr e) r =
        let b : k < n = omega (arith, e) in
        get_or-append (up_to f n) (f n ∷ []) _ k (rw (length_up_to f n) b) ∙ r b

-- past the end two lists agree
pub at_past : (f g : ℕ → Term) (n k : ℕ) → n ≤ k → at (up_to f n) k ≡ at (up_to g n) k
unfolding at
at_past f g n k h =
    get_or-eq_default (up_to f n) _ (rw (length_up_to f n) h) ∙ sym (get_or-eq_default (up_to g n) _ (rw (length_up_to g n) h))

pub up_to_same : (f g : ℕ → Term) (n : ℕ) → ((k : ℕ) → k < n → f k ≡ g k) → up_to f n ≡ up_to g n
unfolding up_to
up_to_same f g zero h = refl
up_to_same f g (suc n) h = λ i. up_to_same f g n (λ k b. h k (omega arith)) i ++ (h n (omega arith) i ∷ [])

-- a list by index
pub up_to_at : (ts : List Term) (n : ℕ) → length ts ≡ n → up_to (at ts) n ≡ ts
unfolding at
up_to_at ts n e = ext_get_or _ (up_to (at ts) n) ts (length_up_to (at ts) n ∙ sym e) (λ i b. at_up_to (at ts) n i (rw (length_up_to (at ts) n) at b))

-- what holds at each index holds of every term, and the other way
pub every_at : (P : Term → Type 0) (ts : List Term) → Every P ts → (k : ℕ) → k < length ts → P (at ts k)
unfolding at
every_at P [] none k h = absurd (omega arith)
every_at P (t ∷ ts) (more x e) zero h = x
every_at P (t ∷ ts) (more x e) (suc k) h = every_at P ts e k (omega arith)

pub every_of : (P : Term → Type 0) (ts : List Term) → ((k : ℕ) → k < length ts → P (at ts k)) → Every P ts
unfolding at
every_of P [] h = none
every_of P (t ∷ ts) h = more (h 0 (omega arith)) (every_of P ts (λ k b. h (suc k) (omega arith)))
