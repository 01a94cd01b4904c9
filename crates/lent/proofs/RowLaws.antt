-- Rows: a stored one is read back, those beside it are kept, and a list of terms comes back out of its bytes.
use mathlib.Core.Path.{◌≡◌, refl, sym, ap, ap₂, ◌∙◌}
use mathlib.Core.List.{List, [], ◌∷◌, ◌++◌, append_assoc}
use Prim.Native.Nat.{ℕ, zero, suc, ◌+◌, ◌-◌, ◌*◌, ◌≤◌, ◌<◌}
use native.Mathlib.Omega.{arith}
use native.Mathlib.Nat.{zero-add, add-zero, suc-add, mul-suc}
use lib.IntN.{ℤ}
use lib.ListN.{length, take, drop, length-append}
use lib.Seq.{length-take-le}
use mir.Syntax.{w64}
use mir.Val.{to_z, of_z}
use mir.Facts.{to_z-of_z, Fits-of_z}
use Rattle.modes.specs.declared.Term.{Term}
use Rattle.lent.specs.Bytes.{bytes, num, num_at, word_at, put, put_word}
use Rattle.modes.specs.Every.{Every, none, more}
use Rattle.lent.specs.Rows.{row_bytes, row_at, put_row, rows_bytes, rows_at, Fit}
use Rattle.lent.proofs.Numbers.{length_bytes, num_bytes}
use Rattle.lent.proofs.NumbersAt.{num_at_is, num_before}
use Rattle.lent.proofs.Puts.{put_join}

-- three words make a term
pub term_of : {a b : ℕ} {x y : ℕ} {c z : ℤ} → a ≡ b → x ≡ y → c ≡ z
    → ◌≡◌ {A = Term} (record { cre = x; ann = a; coeff = c }) (record { cre = y; ann = b; coeff = z })
term_of p q r = λ i. record { cre = q i; ann = p i; coeff = r i }

pub length_row : (t : Term) → length (row_bytes t) ≡ 24
unfolding row_bytes
length_row t = simp (length-append, length_bytes)

pub length_rows : (ts : List Term) → length (rows_bytes ts) ≡ 24 * length ts
unfolding rows_bytes
length_rows [] = refl
length_rows (t ∷ ts) = simp (length-append, length_row, length_rows ts) (omega (arith, mul-suc 24 (length ts)))

-- the row that stands after the first part of a list, in three words
module _ (p q a b c : List ℕ) (o : ℕ) (e : length p ≡ o) (la : length a ≡ 8) (lb : length b ≡ 8) (lc : length c ≡ 8) where
  first : num_at 8 (p ++ ((a ++ (b ++ c)) ++ q)) o ≡ num a
  first = let s : p ++ ((a ++ (b ++ c)) ++ q) ≡ p ++ (a ++ (b ++ (c ++ q))) = simp append_assoc in
      rw s (num_at_is p a (b ++ (c ++ q)) o 8 e la)

  second : num_at 8 (p ++ ((a ++ (b ++ c)) ++ q)) (o + 8) ≡ num b
  second = let s : p ++ ((a ++ (b ++ c)) ++ q) ≡ (p ++ a) ++ (b ++ (c ++ q)) = simp append_assoc in
      rw s (num_at_is (p ++ a) b (c ++ q) (o + 8) 8 (simp (length-append, e, la)) lb)

  third : num_at 8 (p ++ ((a ++ (b ++ c)) ++ q)) (o + 16) ≡ num c
  third = let s : p ++ ((a ++ (b ++ c)) ++ q) ≡ (p ++ (a ++ b)) ++ (c ++ q) = simp append_assoc in
      rw s (num_at_is (p ++ (a ++ b)) c q (o + 16) 8 (simp (length-append, e, la, lb)) lc)

pub rows_append : (a b : List Term) → rows_bytes (a ++ b) ≡ rows_bytes a ++ rows_bytes b
unfolding rows_bytes
rows_append [] b = refl
rows_append (t ∷ a) b = ap (λ (l : List ℕ). row_bytes t ++ l) (rows_append a b) ∙ sym (append_assoc (row_bytes t) (rows_bytes a) (rows_bytes b))

row_at_is : (p q : List ℕ) (o : ℕ) (t : Term) → length p ≡ o → Fit t → row_at (p ++ (row_bytes t ++ q)) o ≡ t
unfolding row_at row_bytes
row_at_is p q o t e f =
    let a = bytes 8 t.ann in
    let b = bytes 8 t.cre in
    let c = bytes 8 (of_z w64 t.coeff) in
    let la = length_bytes 8 t.ann in
    let lb = length_bytes 8 t.cre in
    let lc = length_bytes 8 (of_z w64 t.coeff) in
    term_of (first p q a b c o e la lb lc ∙ num_bytes 8 t.ann f.ann)
    (second p q a b c o e la lb lc ∙ num_bytes 8 t.cre f.cre)
    (ap (to_z w64) (third p q a b c o e la lb lc ∙ num_bytes 8 (of_z w64 t.coeff) (Fits-of_z f.coeff).fits) ∙ to_z-of_z f.coeff)

-- terms come back out of their rows
pub rows_at_is : (p q : List ℕ) (o : ℕ) (ts : List Term) → length p ≡ o → Every Fit ts → rows_at (p ++ (rows_bytes ts ++ q)) o (length ts) ≡ ts
unfolding rows_at rows_bytes
rows_at_is p q o [] e none = refl
rows_at_is p q o (t ∷ ts) e (more f fs) =
    let first : p ++ ((row_bytes t ++ rows_bytes ts) ++ q) ≡ p ++ (row_bytes t ++ (rows_bytes ts ++ q)) = simp append_assoc in
    let rest : p ++ ((row_bytes t ++ rows_bytes ts) ++ q) ≡ (p ++ row_bytes t) ++ (rows_bytes ts ++ q) = simp append_assoc in
    let far : length (p ++ row_bytes t) ≡ o + 24 = simp (length-append, length_row, e) in
    λ i. (ap (λ (z : List ℕ). row_at z o) first ∙ row_at_is p (rows_bytes ts ++ q) o t e f) i ∷
    (ap (λ (z : List ℕ). rows_at z (o + 24) (length ts)) rest ∙ rows_at_is (p ++ row_bytes t) q (o + 24) ts far fs) i

-- three words stored side by side are a row
pub put_words : (l l1 l2 l3 : List ℕ) (o x : ℕ) (t : Term) → o + 24 ≤ length l → l1 ≡ put_word l o t.ann → l2 ≡ put_word l1 (o + 8) t.cre
    → l3 ≡ put_word l2 (o + 16) x → x ≡ of_z w64 t.coeff → l3 ≡ put_row l o t
unfolding row_bytes
put_words l l1 l2 l3 o x t h e1 e2 e3 ex =
    let a = bytes 8 t.ann in
    let b = bytes 8 t.cre in
    let c = bytes 8 (of_z w64 t.coeff) in
    let two : o + length (a ++ b) ≡ o + 16 = simp (length-append, length_bytes) in
    rw (e3, e2, e1, ex)
    (ap (λ (z : List ℕ). put z (o + 16) c) (put_join l a b o (o + 8) (omega arith) (simp length_bytes))
    ∙ put_join l (a ++ b) c o (o + 16) (omega arith) two
    ∙ ap (put l o) (append_assoc a b c))

-- what was stored
row_put : (l : List ℕ) (o : ℕ) (t : Term) → o ≤ length l → Fit t → row_at (put_row l o t) o ≡ t
unfolding put
row_put l o t h f = row_at_is (take o l) (drop (o + length (row_bytes t)) l) o t (length-take-le o l h) f

-- beside a store
module _ (l : List ℕ) (o : ℕ) (bs : List ℕ) (fits : o + length bs ≤ length l) where
  row_before : (p : ℕ) → p + 24 ≤ o → row_at (put l o bs) p ≡ row_at l p
  unfolding row_at
  row_before p h = term_of (before p (omega arith)) (before (p + 8) (omega arith)) (ap (to_z w64) (before (p + 16) (omega arith)))
    where
      before : (q : ℕ) → q + 8 ≤ o → word_at (put l o bs) q ≡ word_at l q
      before q k = num_before l o bs fits 8 q k

  rows_before : (p n : ℕ) → p + 24 * n ≤ o → rows_at (put l o bs) p n ≡ rows_at l p n
  unfolding rows_at
  rows_before p zero h = refl
  rows_before p (suc n) h =
      let m : 24 * suc n ≡ 24 * n + 24 = mul-suc 24 n in
      λ i. row_before p (omega arith) i ∷ rows_before (p + 24) n (omega arith) i

-- one row more
pub rows_more : (l : List ℕ) (o n : ℕ) → rows_at l o (n + 1) ≡ rows_at l o n ++ (row_at l (o + 24 * n) ∷ [])
unfolding rows_at
rows_more l o zero = rw add-zero
rows_more l o (suc n) =
    let e : o + 24 + 24 * n ≡ o + 24 * suc n = omega (arith, mul-suc 24 n) in
    rw (suc-add, ← e) (ap (λ (ts : List Term). row_at l o ∷ ts) (rows_more l (o + 24) n))

-- a row stored after n others
pub rows_put : (l : List ℕ) (o n : ℕ) (t : Term) → o + 24 * n + 24 ≤ length l → Fit t → rows_at (put_row l (o + 24 * n) t) o (n + 1) ≡ rows_at l o n ++ (t ∷ [])
rows_put l o n t h f =
    let room : o + 24 * n + length (row_bytes t) ≤ length l = rw (length_row t) h in
    rw (rows_more, rows_before l (o + 24 * n) (row_bytes t) room o n (omega arith), row_put l (o + 24 * n) t (omega arith) f)

pub length_rows_at : (l : List ℕ) (o n : ℕ) → length (rows_at l o n) ≡ n
unfolding rows_at
length_rows_at l o zero = refl
length_rows_at l o (suc n) = ap suc (length_rows_at l (o + 24) n)

-- the i-th of n rows, and those after it
pub rows_next : (l : List ℕ) (i n : ℕ) → i < n → rows_at l (24 * i) (n - i) ≡ row_at l (24 * i) ∷ rows_at l (24 * (i + 1)) (n - (i + 1))
unfolding rows_at
rows_next l i n h =
    let e : n - i ≡ suc (n - (i + 1)) = omega arith in
    let f : 24 * i + 24 ≡ 24 * (i + 1) = omega arith in
    ap (rows_at l (24 * i)) e ∙ ap (λ (o : ℕ). row_at l (24 * i) ∷ rows_at l o (n - (i + 1))) f

-- rows in two parts
rows_plus : (l : List ℕ) (o a b : ℕ) → rows_at l o (a + b) ≡ rows_at l o a ++ rows_at l (o + 24 * a) b
unfolding rows_at
rows_plus l o zero b = rw (zero-add, add-zero)
rows_plus l o (suc a) b =
    let e : o + 24 + 24 * a ≡ o + 24 * suc a = omega (arith, mul-suc 24 a) in
    rw (suc-add, ← e) (ap (λ (ts : List Term). row_at l o ∷ ts) (rows_plus l (o + 24) a b))

-- rows stored after n others
pub rows_put_all : (l : List ℕ) (n : ℕ) (ts : List Term) → 24 * n + 24 * length ts ≤ length l → Every Fit ts
    → rows_at (put l (24 * n) (rows_bytes ts)) 0 (n + length ts) ≡ rows_at l 0 n ++ ts
unfolding put
rows_put_all l n ts h f =
    let room : 24 * n + length (rows_bytes ts) ≤ length l = rw (length_rows ts) h in
    rows_plus (put l (24 * n) (rows_bytes ts)) 0 n (length ts)
    ∙ ap₂ (λ (x y : List Term). x ++ y) (rows_before l (24 * n) (rows_bytes ts) room 0 n (omega arith))
    (ap (λ (o : ℕ). rows_at (put l (24 * n) (rows_bytes ts)) o (length ts)) (zero-add (24 * n))
    ∙ rows_at_is (take (24 * n) l) (drop (24 * n + length (rows_bytes ts)) l) (24 * n) ts (length-take-le (24 * n) l (omega arith)) f)
