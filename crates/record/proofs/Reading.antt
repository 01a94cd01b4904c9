-- The terms in three columns, term by term.
use mathlib.Core.Path.{◌≡◌, refl, sym, ap, ◌∙◌}
use mathlib.Core.List.{List, [], ◌∷◌}
use Prim.Native.Nat.{ℕ, zero, suc, ◌+◌, ◌*◌, ◌-◌, ◌≤◌, ◌<◌}
use native.Mathlib.Omega.{arith}
use native.Mathlib.Nat.{mul-suc}
use lib.ListN.{length, drop, drop_of_length-le}
use mir.Syntax.{w64}
use mir.Val.{to_z}
use Rattle.modes.specs.declared.Term.{Term}
use Rattle.lent.specs.Bytes.{word_at}
use Rattle.record.specs.Numbers.{numbers}
use Rattle.record.specs.Layout.{together, terms_in}
use Rattle.record.specs.Reading.{At}

-- n terms whose columns stand at a, c and z
abbrev pub columns_at : List ℕ → ℕ → ℕ → ℕ → ℕ → List Term
columns_at l a c z n = together (numbers 8 l a n) (numbers 8 l c n) (numbers 8 l z n)

abbrev pub term_at : List ℕ → ℕ → ℕ → ℕ → Term
term_at l a c z = record { cre = word_at l c; ann = word_at l a; coeff = to_z w64 (word_at l z) }

length_columns : (l : List ℕ) (a c z n : ℕ) → length (columns_at l a c z n) ≡ n
unfolding together numbers
length_columns l a c z zero = refl
length_columns l a c z (suc n) = ap suc (length_columns l (a + 8) (c + 8) (z + 8) n)

pub length_terms : (l : List ℕ) (n : ℕ) → length (terms_in l n) ≡ n
unfolding terms_in
length_terms l n = length_columns l 32 (32 + 8 * n) (32 + 16 * n) n

rest_at : (l : List ℕ) (a c z n i : ℕ) → i ≤ n → drop i (columns_at l a c z n) ≡ columns_at l (a + 8 * i) (c + 8 * i) (z + 8 * i) (n - i)
unfolding together numbers
rest_at l a c z n zero h =
    let e : (x : ℕ) → x + 8 * 0 ≡ x = λ x. omega arith in let k : n - 0 ≡ n = omega arith in rw (e a, e c, e z, k)
rest_at l a c z zero (suc i) h = absurd (omega arith)
rest_at l a c z (suc n) (suc i) h =
    let e : (x : ℕ) → x + 8 * suc i ≡ x + 8 + 8 * i = λ x. omega (arith, mul-suc 8 i) in
    let k : suc n - suc i ≡ n - i = omega arith in
    rw (e a, e c, e z, k) (rest_at l (a + 8) (c + 8) (z + 8) n i (omega arith))

-- the i-th term is that of the i-th entries
pub term_at_is : (l : List ℕ) (n i : ℕ) → i < n → At (terms_in l n) i (term_at l (32 + 8 * i) (32 + 8 * n + 8 * i) (32 + 16 * n + 8 * i))
unfolding terms_in together numbers
term_at_is l n i h =
    let k : n - i ≡ suc (n - (i + 1)) = omega arith in
    let e : (x : ℕ) → x + 8 * (i + 1) ≡ x + 8 * i + 8 = λ x. omega arith in
    rest_at l 32 (32 + 8 * n) (32 + 16 * n) n i (omega arith)
    ∙ rw k (ap (λ (ts : List Term). term_at l (32 + 8 * i) (32 + 8 * n + 8 * i) (32 + 16 * n + 8 * i) ∷ ts)
    (sym (rest_at l 32 (32 + 8 * n) (32 + 16 * n) n (i + 1) (omega arith) ∙ rw (e 32, e (32 + 8 * n), e (32 + 16 * n)))))

-- nothing stands past the last term
pub none_left : (l : List ℕ) (n i : ℕ) → n ≤ i → drop i (terms_in l n) ≡ []
none_left l n i h = drop_of_length-le (terms_in l n) {i = i} (rw (length_terms l n) h)
