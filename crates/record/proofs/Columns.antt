-- Terms at their columns: what is put there is read there, and what finishes the record.
use mathlib.Core.Path.{◌≡◌, refl, sym, ap, ap₂, ◌∙◌}
use mathlib.Core.List.{List, [], ◌∷◌, ◌++◌, map}
use mathlib.Core.Logic.{◌⊎◌, inl, inr}
use Prim.Native.Nat.{ℕ, zero, suc, ◌+◌, ◌*◌, ◌-◌, ◌≤◌, ◌<◌}
use native.Mathlib.Nat.{zero-add, mul-suc}
use native.Mathlib.Numerals.{add-one}
use native.Mathlib.Omega.{arith}
use lib.ListN.{length, take, drop, set, length-set}
use lib.Seq.{ext_get_or, get_or-drop, get_or-set_same, get_or-set_other, take-suc-set, take_all, drop-nil, take-nil, take-append-add, drop-append-add}
use Rattle.modes.specs.declared.Term.{Term}
use Rattle.std.specs.Prelude.{Result, Ok}
use Rattle.modes.specs.declared.Refusal.{Refusal}
use Rattle.modes.specs.declared.Written.{Written}
use Rattle.modes.specs.Answers.{wrote}
use Rattle.lent.specs.Bytes.{bytes, put, zeros}
use Rattle.lent.specs.Rows.{Fit}
use Rattle.lent.specs.Outputs.{filled_output, Gives}
use Rattle.lent.proofs.Numbers.{length_bytes}
use Rattle.lent.proofs.Puts.{length_put}
use Rattle.places.specs.Terms.{at}
use Rattle.places.specs.Apart.{Apart}
use Rattle.places.specs.Places.{term_in, put_in, terms_placed}
use Rattle.places.proofs.Choices.{same_or}
use Rattle.places.proofs.UpTo.{up_to_at, up_to_same}
use Rattle.places.proofs.InPlaces.{put_same, put_other}
use Rattle.record.specs.Numbers.{stored}
use Rattle.record.specs.Layout.{record_length, header, column, encode, terms_in, column_places}
use Rattle.record.specs.Reading.{Holds}
use Rattle.record.proofs.Reading.{length_terms, term_at_is}
use Rattle.record.proofs.Encoded.{length_header, length_encode}
use Rattle.record.proofs.Inverse.{Small, columns_read}

pub columns_apart : (n size : ℕ) → record_length n ≤ size → Apart (column_places n) n size
columns_apart n size h = record {
  held = λ i b. record { ann = omega arith; cre = omega arith; coeff = omega arith };
  wide = omega arith;
  ann_cre = λ i j b c. inl (omega arith);
  ann_coeff = λ i j b c. inl (omega arith);
  cre_coeff = λ i j b c. inl (omega arith);
}

-- the terms of a record are those at its columns
at_head : (ts us : List Term) (t : Term) (i : ℕ) → drop i ts ≡ t ∷ us → at ts i ≡ t
unfolding at
at_head ts us t i e =
    let z : i + 0 ≡ i = omega arith in
    ap (λ (k : ℕ). at ts k) (sym z) ∙ sym (get_or-drop i ts 0 _) ∙ ap (λ (vs : List Term). at vs 0) e

pub at_columns : (l : List ℕ) (n : ℕ) → terms_placed (column_places n) l n ≡ terms_in l n
unfolding term_in
at_columns l n =
    up_to_same (term_in (column_places n) l) (at (terms_in l n)) n (λ k h. sym (at_head (terms_in l n) _ _ k (term_at_is l n k h)))
    ∙ up_to_at (terms_in l n) n (length_terms l n)

-- a term put at its place is read there, and the others are as they were
pub term_put : (l m : List ℕ) (n k : ℕ) (t : Term) → Holds l n → k < n → Fit t → m ≡ put_in (column_places n) l k t → terms_in m n ≡ set (terms_in l n) k t
unfolding at
term_put l m n k t room h fit e =
    ext_get_or _ (terms_in m n) (set (terms_in l n) k t) (length_terms m n ∙ sym (length-set (terms_in l n) k t ∙ length_terms l n)) (λ i b. go i (same_or i k))
  where
    apart : Apart (column_places n) n (length l)
    apart = columns_apart n (length l) room

    put_at : (i : ℕ) → at (terms_in m n) i ≡ at (terms_placed (column_places n) (put_in (column_places n) l k t) n) i
    put_at i = ap (λ (ts : List Term). at ts i) (sym (at_columns m n) ∙ ap (λ (r : List ℕ). terms_placed (column_places n) r n) e)

    go : (i : ℕ) → (i ≡ k) ⊎ (i ≡ k → ⊥) → at (terms_in m n) i ≡ at (set (terms_in l n) k t) i
    go i (inl q) = rw q (put_at k ∙ put_same (column_places n) n l k t apart h fit ∙ sym (get_or-set_same (terms_in l n) k t _ (rw (length_terms l n) h)))
    go i (inr q) =
        put_at i ∙ put_other (column_places n) n l k t apart h i q ∙ ap (λ (ts : List Term). at ts i) (at_columns l n)
        ∙ sym (get_or-set_other (terms_in l n) k i t _ q)

-- terms put one after the other: the first of them, and all
pub terms_more : (l m : List ℕ) (n k : ℕ) (t : Term) → k < n → terms_in m n ≡ set (terms_in l n) k t → take (k + 1) (terms_in m n) ≡ take k (terms_in l n) ++ (t ∷ [])
terms_more l m n k t h e = rw (add-one k, e) (take-suc-set (terms_in l n) k t (rw (length_terms l n) h))

pub terms_all : (l : List ℕ) (n k : ℕ) → n ≤ k → take k (terms_in l n) ≡ terms_in l n
terms_all l n k h = take_all k (terms_in l n) (rw (length_terms l n) h)

put_front : (l bs : List ℕ) → put l 0 bs ≡ bs ++ drop (length bs) l
unfolding put
put_front l bs = rw (zero-add (length bs))

-- the header in front of them, and zeros past them
abbrev filled : ℕ → ℕ → Result Written Refusal
filled branches len = Ok (wrote len branches)

pub finished : (out one two : List ℕ) (m n branches : ℕ) → Small out → Holds out n → one ≡ put out 0 (header m n)
    → two ≡ take (record_length n) one ++ zeros (length one - record_length n)
    → Gives (filled_output (length out) branches (encode m (terms_in out n))) (Ok (wrote (record_length n) branches)) two
finished out one two m n branches small room e1 e2 =
    let ts = terms_in out n in
    let size : length (encode m ts) ≡ record_length n = length_encode m ts ∙ ap record_length (length_terms out n) in
    let h = length_header m n in
    let long : length one ≡ length out = ap length e1 ∙ length_put out 0 (header m n) (omega arith) in
    let front : take (record_length n) one ≡ encode m ts =
    ap₂ take (ap (λ (x : ℕ). x + 24 * n) (sym h)) (e1 ∙ put_front out (header m n)) ∙ take-append-add (header m n) _ (24 * n)
    ∙ ap₂ (λ (x : ℕ) (y : List ℕ). header m x ++ y) (sym (length_terms out n)) (ap (λ (x : ℕ). take (24 * n) (drop x out)) h ∙ sym (columns_read out small n room)) in
    record { answer = ap (filled branches) (sym size); bytes = e2 ∙ rw (front, long, size) }

-- ---- parts of a column

pub drop_take : {A : Type 0} (i k : ℕ) (l : List A) → drop i (take k l) ≡ take (k - i) (drop i l)
drop_take zero k l = let e : k - 0 ≡ k = omega arith in rw e
drop_take (suc i) zero l = let e : zero - suc i ≡ 0 = omega arith in rw e
drop_take (suc i) (suc k) [] = sym (take-nil (suc k - suc i))
drop_take (suc i) (suc k) (x ∷ l) = let e : suc k - suc i ≡ k - i = omega arith in rw e (drop_take i k l)

pub column_none : (f : Term → ℕ) → column f [] ≡ []
unfolding column stored
column_none f = refl

-- a part of a column is the column of a part
pub column_take : (f : Term → ℕ) (k : ℕ) (ts : List Term) → take (8 * k) (column f ts) ≡ column f (take k ts)
unfolding column stored
column_take f zero ts = refl
column_take f (suc k) [] = take-nil (8 * suc k)
column_take f (suc k) (t ∷ ts) =
    let m : 8 * suc k ≡ length (bytes 8 (f t)) + 8 * k = rw (length_bytes 8 (f t)) (omega (arith, mul-suc 8 k)) in
    rw m (take-append-add (bytes 8 (f t)) (stored 8 (map f ts)) (8 * k) ∙ ap (λ (z : List ℕ). bytes 8 (f t) ++ z) (column_take f k ts))

pub column_drop : (f : Term → ℕ) (k : ℕ) (ts : List Term) → drop (8 * k) (column f ts) ≡ column f (drop k ts)
unfolding column stored
column_drop f zero ts = refl
column_drop f (suc k) [] = drop-nil (8 * suc k)
column_drop f (suc k) (t ∷ ts) =
    let m : 8 * suc k ≡ length (bytes 8 (f t)) + 8 * k = rw (length_bytes 8 (f t)) (omega (arith, mul-suc 8 k)) in
    rw m (drop-append-add (bytes 8 (f t)) (stored 8 (map f ts)) (8 * k) ∙ column_drop f k ts)
