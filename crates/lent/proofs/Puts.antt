-- Stores of stretches of bytes: what stands before and after one is kept, and adjacent ones join.
use mathlib.Core.Path.{◌≡◌, sym, ap, ◌∙◌}
use mathlib.Core.List.{List, ◌++◌, append_assoc}
use Prim.Native.Nat.{ℕ, suc, ◌+◌, ◌-◌, ◌≤◌, ◌<◌}
use native.Mathlib.Omega.{arith}
use native.Mathlib.Nat.{add_assoc, add-zero}
use lib.ListN.{length, get_or, take, drop, length-append, length-drop}
use lib.Seq.{drop-drop, drop_at, take_at, take-append-le, take-take, length-take-le, get_or-take, get_or-drop, sets, sets-eq}
use Rattle.lent.specs.Bytes.{put}

-- a store past the first part of a list
put_at : (a d y : List ℕ) (o : ℕ) → length a ≡ o → put (a ++ d) o y ≡ a ++ (y ++ drop (length y) d)
unfolding put
put_at a d y o e = rw (take_at a d o e, ← drop-drop (length y) o (a ++ d), drop_at a d o e)

module _ (l : List ℕ) (o : ℕ) (bs : List ℕ) (fits : o + length bs ≤ length l) where
  front : length (take o l) ≡ o
  front = length-take-le o l (omega arith)

  pub length_put : length (put l o bs) ≡ length l
  unfolding put
  length_put = simp (length-append, front, length-drop) (omega arith)

  pub take_put : (p : ℕ) → p ≤ o → take p (put l o bs) ≡ take p l
  unfolding put
  take_put p h =
      take-append-le p (take o l) (bs ++ drop (o + length bs) l) (rw front h) ∙ take-take p o l h

  pub drop_put : (p : ℕ) → o + length bs ≤ p → drop p (put l o bs) ≡ drop p l
  unfolding put
  drop_put p h =
      let n = o + length bs in
      let e : n + (p - n) ≡ p = omega arith in
      let f : length (take o l ++ bs) ≡ n = simp (length-append, front) in
      let d : drop n (take o l ++ (bs ++ drop n l)) ≡ drop n l = rw (← append_assoc) (drop_at (take o l ++ bs) (drop n l) n f) in
      rw (← e) (sym (drop-drop (p - n) n (take o l ++ (bs ++ drop n l))) ∙ ap (drop (p - n)) d ∙ drop-drop (p - n) n l)

  pub byte_before : (k : ℕ) → k < o → get_or (put l o bs) k 0 ≡ get_or l k 0
  byte_before k h =
      sym (get_or-take (suc k) (put l o bs) k 0 (omega arith)) ∙ ap (λ (z : List ℕ). get_or z k 0) (take_put (suc k) h) ∙ get_or-take (suc k) l k 0 (omega arith)

  pub byte_after : (k : ℕ) → o + length bs ≤ k → get_or (put l o bs) k 0 ≡ get_or l k 0
  byte_after k h =
      let first : (m : List ℕ) → get_or m k 0 ≡ get_or (drop k m) 0 0 = λ m. sym (get_or-drop k m 0 0 ∙ ap (λ (z : ℕ). get_or m z 0) (add-zero k)) in
      first (put l o bs) ∙ ap (λ (z : List ℕ). get_or z 0 0) (drop_put k h) ∙ sym (first l)

-- byte by byte
pub put_sets : (l : List ℕ) (o : ℕ) (bs : List ℕ) → o + length bs ≤ length l → sets l o bs ≡ put l o bs
unfolding put
put_sets l o bs h = sets-eq bs l o h ∙ append_assoc (take o l) bs (drop (o + length bs) l)

-- two stores side by side are one
pub put_join : (l x y : List ℕ) (o p : ℕ) → o ≤ length l → o + length x ≡ p → put (put l o x) p y ≡ put l o (x ++ y)
unfolding put
put_join l x y o p h e =
    let f : length (take o l ++ x) ≡ p = simp (length-append, length-take-le o l h) e in
    ap (λ (z : List ℕ). put z p y) (sym (append_assoc (take o l) x (drop (o + length x) l)))
    ∙ put_at (take o l ++ x) (drop (o + length x) l) y p f
    ∙ rw (drop-drop (length y) (o + length x) l, append_assoc (take o l) x, length-append x y, append_assoc x y, add_assoc o (length x) (length y))
