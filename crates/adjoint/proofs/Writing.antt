-- The adjoint terms written one after the other, in the record's order.
use mathlib.Core.Path.{◌≡◌, sym, ap, ap₂, ◌∙◌}
use mathlib.Core.List.{List, [], ◌∷◌, ◌++◌, map, map-append}
use Prim.Native.Nat.{ℕ, zero, suc, ◌+◌, ◌≤◌, ◌<◌}
use native.Mathlib.Omega.{arith}
use lib.ListN.{length, take, drop, set}
use lib.Seq.{drop-nil, take_all}
use Rattle.modes.specs.declared.Term.{Term}
use Rattle.modes.specs.Every.{Every, none, more}
use Rattle.record.specs.Layout.{terms_in}
use Rattle.record.proofs.Columns.{terms_more, terms_all}
use Rattle.adjoint.specs.Adjoint.{adjoint_term}

-- ---- the term at an index

none_at : (i : ℕ) (t : Term) (us : List Term) → drop i [] ≡ t ∷ us → ⊥
none_at i t us e =
    let z : ◌≡◌ {A = List Term} [] (t ∷ us) = sym (drop-nil i) ∙ e in let w : ◌≡◌ {A = ℕ} 0 1 = cc in omega arith

pub every_drop : {P : Term → Type 0} (ts us : List Term) (t : Term) (i : ℕ) → Every P ts → drop i ts ≡ t ∷ us → P t
every_drop [] us t i none e = absurd (none_at i t us e)
every_drop (x ∷ ts) us t zero (more p ps) e = let w : x ≡ t = cc in rw w at p
every_drop (x ∷ ts) us t (suc i) (more p ps) e = every_drop ts us t i ps e

take_more : (ts us : List Term) (t : Term) (i : ℕ) → drop i ts ≡ t ∷ us → take (suc i) ts ≡ take i ts ++ (t ∷ [])
take_more [] us t i e = absurd (none_at i t us e)
take_more (x ∷ ts) us t zero e = let w : x ≡ t = cc in rw w
take_more (x ∷ ts) us t (suc i) e = ap (λ (l : List Term). x ∷ l) (take_more ts us t i e)

pub take_one_more : (ts us : List Term) (t : Term) (i : ℕ) → drop i ts ≡ t ∷ us → take (i + 1) ts ≡ take i ts ++ (t ∷ [])
take_one_more ts us t i e = let k : i + 1 ≡ suc i = omega arith in rw k (take_more ts us t i e)

-- ---- the walk: the first i of the n terms in out are the adjoint terms

module _ (n : ℕ) (ts : List Term) (i : ℕ) (out : List ℕ) (g : take i (terms_in out n) ≡ map adjoint_term (take i ts)) where
  pub filling_goes : (t u : Term) (us : List Term) (after : List ℕ) → i < n → drop i ts ≡ t ∷ us → u ≡ adjoint_term t
      → terms_in after n ≡ set (terms_in out n) i u → take (i + 1) (terms_in after n) ≡ map adjoint_term (take (i + 1) ts)
  filling_goes t u us after h e eu ea =
      terms_more out after n i u h ea ∙ ap₂ (λ (vs : List Term) (v : Term). vs ++ (v ∷ [])) g eu
      ∙ sym (ap (map adjoint_term) (take_one_more ts us t i e) ∙ map-append adjoint_term (take i ts) (t ∷ []))

  pub filling_ends : length ts ≡ n → n ≤ i → terms_in out n ≡ map adjoint_term ts
  filling_ends size h = sym (terms_all out n i h) ∙ g ∙ ap (map adjoint_term) (take_all i ts (omega (arith, size)))
