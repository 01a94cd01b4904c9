-- Text stored byte by byte, and stores one after the other.
use mathlib.Core.Path.{◌≡◌, refl, sym, ap, ◌∙◌}
use mathlib.Core.List.{List, [], ◌∷◌, ◌++◌}
use Prim.Native.Nat.{ℕ, ◌+◌, ◌≤◌, ◌<◌}
use native.Mathlib.Omega.{arith}
use native.Mathlib.Nat.{add_assoc}
use lib.ListN.{length, take, drop, set, length-append}
use lib.Seq.{length-take-le, take_at}
use Rattle.lent.specs.Bytes.{put}
use Rattle.lent.proofs.Puts.{put_sets, put_join}
use Rattle.decimals.specs.Stores.{Stored}

-- nothing
pub stored_none : (l : List ℕ) (o : ℕ) → o ≤ length l → Stored l o [] l o
stored_none l o h = record { bytes = put_sets l o [] (omega arith); ends = omega arith }

-- one byte
pub stored_one : (l : List ℕ) (o b : ℕ) → o < length l → Stored l o (b ∷ []) (set l o b) (o + 1)
stored_one l o b h = record { bytes = put_sets l o (b ∷ []) (omega arith); ends = refl }

-- one text after the other
pub stored_join : {l m k : List ℕ} {o p q : ℕ} (x y : List ℕ) → o ≤ length l → Stored l o x m p → Stored m p y k q → Stored l o (x ++ y) k q
stored_join {l} {m} {k} {o} {p} {q} x y h f g =
    record {
      bytes = g.bytes ∙ ap (λ (z : List ℕ). put z p y) f.bytes ∙ put_join l x y o p h (sym f.ends);
      ends = g.ends ∙ rw (f.ends, length-append) (add_assoc o (length x) (length y));
    }

-- a text ends inside the bytes that it is stored in
pub stored_inside : {l m : List ℕ} {o p : ℕ} (x : List ℕ) → o ≤ length l → Stored l o x m p → p ≤ length m
unfolding put
stored_inside {l} {m} {o} {p} x h g =
    let whole : length m ≡ o + (length x + length (drop (o + length x) l)) = ap length g.bytes ∙ simp (length-append, length-take-le o l h) in
    omega (arith, whole, g.ends)

-- a text at the front
pub front_taken : (l text : List ℕ) (n : ℕ) → n ≡ length text → take n (put l 0 text) ≡ text
unfolding put
front_taken l text n e = take_at text (drop (0 + length text) l) n (sym e)
