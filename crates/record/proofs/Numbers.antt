-- Numbers one after the other, at any width: their bytes are read back, and what is read has these bytes.
use mathlib.Core.Path.{◌≡◌, refl, sym, ap, ap₂, ◌∙◌}
use mathlib.Core.Bool.{true, false, and-false}
use mathlib.Core.List.{List, [], ◌∷◌, ◌++◌, append_assoc, append-nil}
use Prim.Native.Nat.{ℕ, zero, suc, ◌+◌, ◌*◌, ◌^◌, ◌≤◌, ◌<◌}
use native.Mathlib.Omega.{arith}
use native.Mathlib.Nat.{add-zero, mul-suc, mul-zero}
use native.Mathlib.Numerals.{add-one}
use lib.ListN.{length, get_or, take, drop, length-append, take-append-drop}
use lib.Seq.{drop-drop, take-add}
use borrow.Author.Tests.{eqb-true, eq-eqb, ne_eqb}
use lib.Dec.{eqb}
use Rattle.modes.proofs.Bools.{and_l, and_r}
use Rattle.lent.specs.Bytes.{bytes, num_at, put}
use Rattle.lent.proofs.Numbers.{length_bytes, num_bytes}
use Rattle.lent.proofs.NumbersAt.{num_at_is, bytes_at}
use Rattle.lent.proofs.Puts.{put_join}
use Rattle.modes.specs.Every.{Every, none, more}
use Rattle.record.specs.Numbers.{stored, numbers, same_numbers}

pub length_stored : (w : ℕ) (xs : List ℕ) → length (stored w xs) ≡ w * length xs
unfolding stored
length_stored w [] = sym (mul-zero w)
length_stored w (x ∷ xs) = length-append (bytes w x) (stored w xs) ∙ rw (length_bytes w x, length_stored w xs) (omega (arith, mul-suc w (length xs)))

stored_append : (w : ℕ) (xs ys : List ℕ) → stored w (xs ++ ys) ≡ stored w xs ++ stored w ys
unfolding stored
stored_append w [] ys = refl
stored_append w (x ∷ xs) ys =
    ap (λ (z : List ℕ). bytes w x ++ z) (stored_append w xs ys) ∙ sym (append_assoc (bytes w x) (stored w xs) (stored w ys))

stored_one : (w x : ℕ) → stored w (x ∷ []) ≡ bytes w x
unfolding stored
stored_one w x = append-nil (bytes w x)

pub put_none : (l : List ℕ) (o : ℕ) → put l o [] ≡ l
unfolding put
put_none l o = rw (add-zero o) (take-append-drop o l)

-- one number more, stored after the others
put_next : (w : ℕ) (l : List ℕ) (o : ℕ) (xs : List ℕ) (x p : ℕ) → o ≤ length l → o + w * length xs ≡ p
    → put (put l o (stored w xs)) p (bytes w x) ≡ put l o (stored w (xs ++ (x ∷ [])))
put_next w l o xs x p h e =
    put_join l (stored w xs) (bytes w x) o p h (rw (length_stored w xs) e)
    ∙ ap (put l o) (sym (stored_append w xs (x ∷ []) ∙ ap (λ (z : List ℕ). stored w xs ++ z) (stored_one w x)))

-- numbers stored one by one, the first of them at p
unfoldable pub put_each : ℕ → List ℕ → ℕ → List ℕ → List ℕ
put_each w l p [] = l
put_each w l p (x ∷ xs) = put_each w (put l p (bytes w x)) (p + w) xs

put_after : (w : ℕ) (l : List ℕ) (o : ℕ) (ys xs : List ℕ) (p : ℕ) → o ≤ length l → o + w * length ys ≡ p
    → put_each w (put l o (stored w ys)) p xs ≡ put l o (stored w (ys ++ xs))
unfolding put_each
put_after w l o ys [] p h e = ap (λ (z : List ℕ). put l o (stored w z)) (sym (append-nil ys))
put_after w l o ys (x ∷ xs) p h e =
    let n : length (ys ++ (x ∷ [])) ≡ suc (length ys) = length-append ys (x ∷ []) ∙ add-one (length ys) in
    let f : o + w * length (ys ++ (x ∷ [])) ≡ p + w = rw n (omega (arith, mul-suc w (length ys))) in
    ap (λ (z : List ℕ). put_each w z (p + w) xs) (put_next w l o ys x p h e)
    ∙ put_after w l o (ys ++ (x ∷ [])) xs (p + w) h f
    ∙ ap (λ (z : List ℕ). put l o (stored w z)) (append_assoc ys (x ∷ []) xs)

pub put_each_is : (w : ℕ) (l : List ℕ) (o : ℕ) (xs : List ℕ) → o ≤ length l → put_each w l o xs ≡ put l o (stored w xs)
unfolding stored
put_each_is w l o xs h =
    ap (λ (z : List ℕ). put_each w z o xs) (sym (put_none l o)) ∙ put_after w l o [] xs o h (rw (mul-zero w, add-zero o))

-- numbers that fit are read back
pub numbers_stored : (w : ℕ) (p q xs : List ℕ) (o : ℕ) → length p ≡ o → Every (λ x. x < 256 ^ w) xs
    → numbers w (p ++ (stored w xs ++ q)) o (length xs) ≡ xs
unfolding numbers stored
numbers_stored w p q [] o e none = refl
numbers_stored w p q (x ∷ xs) o e (more h hs) =
    let first : p ++ ((bytes w x ++ stored w xs) ++ q) ≡ p ++ (bytes w x ++ (stored w xs ++ q)) = simp append_assoc in
    let rest : p ++ ((bytes w x ++ stored w xs) ++ q) ≡ (p ++ bytes w x) ++ (stored w xs ++ q) = simp append_assoc in
    let far : length (p ++ bytes w x) ≡ o + w = simp (length-append, length_bytes, e) in
    ap₂ {C = List ℕ} (λ (y : ℕ) (ys : List ℕ). y ∷ ys)
    (ap (λ (z : List ℕ). num_at w z o) first ∙ num_at_is p (bytes w x) (stored w xs ++ q) o w e (length_bytes w x) ∙ num_bytes w x h)
    (ap (λ (z : List ℕ). numbers w z (o + w) (length xs)) rest ∙ numbers_stored w (p ++ bytes w x) q xs (o + w) far hs)

-- of bytes below 256, the bytes of the numbers that were read
pub stored_numbers : (w : ℕ) (l : List ℕ) (o k : ℕ) → o + w * k ≤ length l → ((j : ℕ) → get_or l j 0 < 256)
    → stored w (numbers w l o k) ≡ take (w * k) (drop o l)
unfolding numbers stored
stored_numbers w l o zero h small = rw (mul-zero w)
stored_numbers w l o (suc k) h small =
    let m : w * suc k ≡ w + w * k = omega (arith, mul-suc w k) in
    rw (m, take-add w (w * k) (drop o l), drop-drop w o l, bytes_at w l o (omega arith) small, stored_numbers w l (o + w) k (omega arith) small)

pub same_numbers_is : (xs ys : List ℕ) → same_numbers xs ys ≡ true → xs ≡ ys
unfolding same_numbers
same_numbers_is [] [] e = refl
same_numbers_is [] (y ∷ ys) e = let z : ◌≡◌ {A = ℕ} 0 1 = cc in absurd (omega arith)
same_numbers_is (x ∷ xs) [] e = let z : ◌≡◌ {A = ℕ} 0 1 = cc in absurd (omega arith)
same_numbers_is (x ∷ xs) (y ∷ ys) e =
    ap₂ {C = List ℕ} (λ (z : ℕ) (zs : List ℕ). z ∷ zs) (eqb-true x y (and_l (eqb x y) (same_numbers xs ys) e))
    (same_numbers_is xs ys (and_r (eqb x y) (same_numbers xs ys) e))

pub numbers_same : (xs : List ℕ) → same_numbers xs xs ≡ true
unfolding same_numbers
numbers_same [] = refl
numbers_same (x ∷ xs) = rw (eq-eqb x x refl, numbers_same xs)

pub differ_at : (k : ℕ) (xs ys : List ℕ) → (get_or xs k 0 ≡ get_or ys k 0 → ⊥) → false ≡ same_numbers xs ys
unfolding same_numbers
differ_at k [] [] h = absurd (h refl)
differ_at k [] (y ∷ ys) h = refl
differ_at k (x ∷ xs) [] h = refl
differ_at zero (x ∷ xs) (y ∷ ys) h = rw (ne_eqb x y h)
differ_at (suc k) (x ∷ xs) (y ∷ ys) h = rw (← differ_at k xs ys h) (sym (and-false (eqb x y)))
