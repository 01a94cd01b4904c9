-- The walk over the terms of the difference: what is found, with what is left, names what the whole names.
use mathlib.Core.Path.{◌≡◌, refl, sym, ap, ◌∙◌}
use mathlib.Core.Bool.{Bool, true, false, cond}
use mathlib.Core.List.{List, [], ◌∷◌}
use Rattle.std.specs.Prelude.{Option, None, Some}
use lib.Dec.{eqb}
use lib.IntN.{nat_abs}
use borrow.Author.Tests.{eq-eqb, ne_eqb}
use Rattle.modes.specs.declared.Term.{Term}
use Rattle.normal.specs.Normal.{drop_zeros}
use Rattle.compare.specs.Comparison.{ahead, foremost, named}
use Rattle.compare.specs.Finding.{leading, with_term}
use Rattle.compare.specs.declared.Difference.{Difference}

-- what the code tests
module _ (found : Option Term) (t : Term) where
  pub left_out : nat_abs t.coeff ≡ 0 → found ≡ with_term found t
  unfolding with_term
  left_out z = rw (eq-eqb _ _ z)

  pub counted : (nat_abs t.coeff ≡ 0 → ⊥) → {u : Term} → u ≡ leading found t → Some u ≡ with_term found t
  unfolding with_term
  counted n e = rw (ne_eqb _ _ n, e)

  -- the one found stays, or t is named rather than it, or is the first
  module _ {u : Term} where
    pub stays : found ≡ Some u → ahead t u ≡ false → u ≡ leading found t
    stays i e = rw (i, e)

    pub leads : found ≡ Some u → ahead t u ≡ true → t ≡ leading found t
    leads i e = rw (i, e)

  pub first : found ≡ None → t ≡ leading found t
  first i = rw i

-- the term found, if there is one, and the terms ts
abbrev on_top : Option Term → List Term → List Term
on_top None ts = ts
on_top (Some t) ts = t ∷ ts

abbrev pub Finding : List Term → List Term → Option Term → Type 0
Finding whole left found = named (drop_zeros whole) ≡ named (on_top found (drop_zeros left))

-- of two on top, the one that is named rather than the other
of_two : (t u : Term) (ts : List Term) → named (u ∷ t ∷ ts) ≡ named (cond (ahead t u) t u ∷ ts)
unfolding named foremost
of_two t u ts = refl

pub finding_goes : (whole left rest : List Term) (t : Term) (f g : Option Term) → Finding whole left f → left ≡ t ∷ rest → g ≡ with_term f t
    → Finding whole rest g
unfolding with_term drop_zeros
finding_goes whole left rest t f g e q p =
    e ∙ ap (λ (ts : List Term). named (on_top f (drop_zeros ts))) q ∙ go f (eqb (nat_abs t.coeff) 0)
    ∙ ap (λ (h : Option Term). named (on_top h (drop_zeros rest))) (sym p)
  where
    go : (f : Option Term) (z : Bool) → named (on_top f (cond z (drop_zeros rest) (t ∷ drop_zeros rest)))
        ≡ named (on_top (cond z f (Some (leading f t))) (drop_zeros rest))
    go f true = refl
    go None false = refl
    go (Some u) false = of_two t u (drop_zeros rest)

module _ (whole left : List Term) (e : left ≡ []) where
  pub finding_ends_some : (t : Term) → Finding whole left (Some t)
      → ◌≡◌ {A = Option Difference} (Some (record { bra = t.cre; ket = t.ann })) (named (drop_zeros whole))
  unfolding drop_zeros named foremost
  finding_ends_some t g = sym (g ∙ ap (λ (ts : List Term). named (t ∷ drop_zeros ts)) e)

  pub finding_ends_none : Finding whole left None
      → ◌≡◌ {A = Option Difference} None (named (drop_zeros whole))
  unfolding drop_zeros named
  finding_ends_none g = sym (g ∙ ap (λ (ts : List Term). named (drop_zeros ts)) e)
