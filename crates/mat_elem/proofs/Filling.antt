-- An array filled from the front with the entries of a list, one store a turn; what is past them stays.
use mathlib.Core.Path.{◌≡◌, sym, ap, ◌∙◌}
use mathlib.Core.List.{List, [], ◌∷◌, ◌++◌, map, append_assoc}
use Prim.Native.Nat.{ℕ, suc, ◌+◌, ◌-◌, ◌≤◌, ◌<◌}
use native.Mathlib.Omega.{arith}
use native.Mathlib.Numerals.{add-one}
use lib.ListN.{length, get_or, take, set, replicate, length-map, get_or-map}
use lib.Seq.{take-suc, take_all, set_at, length-take-le}
use Rattle.mat_elem.specs.Matrix.{up_to_eight}

module _ {A : Type 0} (w : List A) (z : A) (n : ℕ) where
  -- the first j entries of w, in an array of n that was z all over
  abbrev pub Filled : ℕ → List A → Type 0
  Filled j v = v ≡ take j w ++ replicate (n - j) z

  module _ (few : length w ≤ n) (j : ℕ) (v : List A) (g : Filled j v) where
    pub fills : (d e : A) → j < length w → e ≡ get_or w j d → Filled (j + 1) (set v j e)
    fills d e h q =
        let k : n - j ≡ suc (n - (j + 1)) = omega arith in
        let front : take (j + 1) w ≡ take j w ++ (get_or w j d ∷ []) = ap (λ (i : ℕ). take i w) (add-one j) ∙ take-suc w j d h in
        rw (g, q, k, front)
        (set_at (take j w) z (replicate (n - (j + 1)) z) (get_or w j d) j (length-take-le j w (omega arith))
        ∙ sym (append_assoc (take j w) (get_or w j d ∷ []) (replicate (n - (j + 1)) z)))

    pub filled : j ≤ length w → length w ≤ j → v ≡ w ++ replicate (n - length w) z
    filled h k = let e : j ≡ length w = omega arith in g ∙ rw (e, take_all (length w) w (omega arith))

-- the values of f for the words of a basis
module _ {A : Type 0} (f : ℕ → A) (z : A) (basis : List ℕ) (few : length basis ≤ 8) (j : ℕ) (v : List A) (g : Filled (map f basis) z 8 j v) where
  few_values : length (map f basis) ≤ 8
  few_values = omega (arith, length-map basis f)

  pub fills_word : (e : A) → j < length basis → e ≡ f (get_or basis j 0) → Filled (map f basis) z 8 (j + 1) (set v j e)
  fills_word e h q =
      fills (map f basis) z 8 few_values j v g (f 0) e (omega (arith, length-map basis f)) (q ∙ sym (get_or-map f basis j 0))

  pub filled_words : j ≤ length basis → length basis ≤ j → v ≡ up_to_eight f z basis
  filled_words h k =
      filled (map f basis) z 8 few_values j v g (omega (arith, length-map basis f)) (omega (arith, length-map basis f))
      ∙ ap (λ (i : ℕ). map f basis ++ replicate (8 - i) z) (length-map basis f)
