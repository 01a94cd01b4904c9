-- Terms written one by one, wherever they come from; those with a zero coefficient are left out.
use mathlib.Core.Path.{◌≡◌, sym, ap, ◌∙◌}
use mathlib.Core.List.{List, [], ◌∷◌, ◌++◌, append_assoc, append-nil}
use Prim.Native.Nat.{ℕ, ◌+◌, ◌≤◌, ◌<◌}
use native.Mathlib.Omega.{arith}
use lib.IntN.{nat_abs}
use lib.ListN.{length, take, set, length-append, length-take}
use Rattle.record.proofs.Columns.{terms_all, terms_more}
use Rattle.record.specs.Layout.{terms_in}
use Rattle.normal.specs.Normal.{drop_zeros}
use Rattle.modes.specs.declared.Term.{Term}
use Rattle.record.proofs.Reading.{length_terms}
use Rattle.normal.proofs.Sizes.{drop_none, drop_keeps, drop_leaves}

-- a walk over the terms of whole, with left to come: the first k of the n terms in out are those before
pub record Writing (n : ℕ) (whole left : List Term) (k : ℕ) (out : List ℕ) : Type 0 where
  pub small : k ≤ n
  pub all : drop_zeros whole ≡ take k (terms_in out n) ++ drop_zeros left

module _ (n : ℕ) (whole left : List Term) (len : n ≡ length (drop_zeros whole)) (k : ℕ) (out : List ℕ) (g : Writing n whole left k out) where
  -- k of them, and those to come, are n
  counted : (rest : List Term) → drop_zeros whole ≡ take k (terms_in out n) ++ rest → n ≡ k + length rest
  counted rest e =
      let done : length (take k (terms_in out n)) ≡ k = length-take k (terms_in out n) ∙ omega (arith, g.small, length_terms out n) in
      len ∙ ap length e ∙ length-append (take k (terms_in out n)) rest ∙ ap (λ (x : ℕ). x + length rest) done

  pub writing_ends : left ≡ [] → terms_in out n ≡ drop_zeros whole
  writing_ends h =
      let e : drop_zeros whole ≡ take k (terms_in out n) ++ [] = g.all ∙ ap (λ (z : List Term). take k (terms_in out n) ++ z) (drop_none left h) in
      sym (e ∙ append-nil (take k (terms_in out n)) ∙ terms_all out n k (omega (arith, counted [] e)))

  module _ (t : Term) (rest : List Term) (front : left ≡ t ∷ rest) where
    pub leaves_out : nat_abs t.coeff ≡ 0 → Writing n whole rest k out
    leaves_out h = record { small = g.small; all = g.all ∙ ap (λ (z : List Term). take k (terms_in out n) ++ z) (ap drop_zeros front ∙ drop_leaves t rest h) }

    split : (nat_abs t.coeff ≡ 0 → ⊥) → drop_zeros whole ≡ take k (terms_in out n) ++ (t ∷ drop_zeros rest)
    split h = g.all ∙ ap (λ (z : List Term). take k (terms_in out n) ++ z) (ap drop_zeros front ∙ drop_keeps t rest h)

    pub has_place : (nat_abs t.coeff ≡ 0 → ⊥) → k < n
    has_place h = omega (arith, counted (t ∷ drop_zeros rest) (split h))

    pub writes : (nat_abs t.coeff ≡ 0 → ⊥) → (next : List ℕ) → terms_in next n ≡ set (terms_in out n) k t → Writing n whole rest (k + 1) next
    writes h next e =
        record {
          small = omega (arith, has_place h);
          all = split h ∙ sym (append_assoc (take k (terms_in out n)) (t ∷ []) _)
              ∙ ap (λ (z : List Term). z ++ drop_zeros rest) (sym (terms_more out next n k t (has_place h) e));
        }
