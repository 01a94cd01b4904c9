-- No two answers meet the promise of `mat_elem_real` or of `mat_elem_complex`.
use mathlib.Core.Path.{◌≡◌, sym, ap, ◌∙◌}
use mathlib.Core.List.{List}
use Prim.Native.Nat.{ℕ}
use lib.Ieee.{Float}
use Rattle.std.specs.Prelude.{Result, Ok, Err}
use Rattle.modes.specs.declared.Refusal.{Refusal}
use Rattle.float_elem.specs.declared.Complex64.{Complex64}
use Rattle.float_elem.specs.Answers.{told_by, real_values, complex_values}
use Rattle.float_elem.specs.Elements.{float_element}

real_one : (x y : Float) → real_values x ≡ real_values y → x ≡ y
real_one x y e = cc

complex_one : (z w : Complex64) → complex_values z ≡ complex_values w → z ≡ w
complex_one z w e =
    let p : z.re ≡ w.re = cc in
    let q : z.im ≡ w.im = cc in
    λ i. record { re = p i; im = q i }

-- what is told fixes the answer where its values fix the number
told_one : {A : Type 0} (values : A → List Float) → ((x y : A) → values x ≡ values y → x ≡ y) → (r s : Result A Refusal)
    → told_by values r ≡ told_by values s → r ≡ s
told_one values fixes (Ok x) (Ok y) e = let same : values x ≡ values y = cc in ap Ok (fixes x y same)
told_one values fixes (Ok x) (Err s) e = cc
told_one values fixes (Err r) (Ok y) e = cc
told_one values fixes (Err r) (Err s) e = cc

-- of the reals and of the complex numbers
pub one_float_element : (m : ℕ) (cre ann : List ℕ) (parts : List (List Float)) (bra ket : ℕ)
    → ((r s : Result Float Refusal) → told_by real_values r ≡ float_element m cre ann parts bra ket
    → told_by real_values s ≡ float_element m cre ann parts bra ket → r ≡ s)
    × ((r s : Result Complex64 Refusal) → told_by complex_values r ≡ float_element m cre ann parts bra ket
    → told_by complex_values s ≡ float_element m cre ann parts bra ket → r ≡ s)
one_float_element m cre ann parts bra ket =
    (λ r s p q. told_one real_values real_one r s (p ∙ sym q), λ r s p q. told_one complex_values complex_one r s (p ∙ sym q))
