-- Eight rows of eight, one after the other, row by row.
use mathlib.Core.Path.{◌≡◌, refl, sym, ap, ◌∙◌}
use mathlib.Core.List.{List, [], ◌∷◌, ◌++◌, append-nil, append_assoc}
use Prim.Native.Nat.{ℕ, zero, suc, ◌+◌, ◌-◌, ◌*◌, ◌≤◌, ◌<◌}
use native.Mathlib.Nat.{mul-suc}
use native.Mathlib.Omega.{arith}
use native.Mathlib.Numerals.{add-one}
use lib.IntN.{ℤ, pos}
use lib.ListN.{length, get_or, take, drop, replicate, length-append}
use lib.Seq.{take_at, drop_at, take_all}
use Rattle.std.proofs.lemmas.List.{drop-drop, drop-replicate}
use Rattle.mat_elem.specs.Matrix.{EightRows}
use Rattle.mat_elem.specs.declared.Row.{Row}
use Rattle.fermion.specs.Face.{in_rows}

-- the i-th row, and no entries past the last
abbrev pub row_at : List Row → ℕ → Row
row_at rows i = get_or rows i (record { entries = [] })

-- one row more
in_more : (rows : List Row) (i : ℕ) → i < length rows → in_rows (take (suc i) rows) ≡ in_rows (take i rows) ++ (row_at rows i).entries
unfolding in_rows
in_more [] i h = absurd (omega arith)
in_more (r ∷ rows) zero h = append-nil r.entries
in_more (r ∷ rows) (suc i) h =
    ap (λ (l : List ℤ). r.entries ++ l) (in_more rows i (omega arith)) ∙ sym (append_assoc r.entries (in_rows (take i rows)) (row_at rows i).entries)

-- the first i rows in m, which was 0 all over
abbrev pub Laid : List Row → ℕ → List ℤ → Type 0
Laid rows i m = m ≡ in_rows (take i rows) ++ replicate (64 - 8 * i) (pos 0)

pub laid_none : (rows : List Row) → Laid rows 0 (replicate 64 (pos 0))
unfolding in_rows
laid_none rows = refl

module _ (rows : List Row) (g : EightRows rows) where
  long : (i : ℕ) → i ≤ 8 → length (in_rows (take i rows)) ≡ 8 * i
  unfolding in_rows
  long zero h = refl
  long (suc i) h =
      let more = in_more rows i (omega (arith, g.count)) in
      let row = (g.each i (omega arith)).count in
      omega (arith, ap length more, length-append (in_rows (take i rows)) (row_at rows i).entries, long i (omega arith), row, mul-suc 8 i)

  module _ (i : ℕ) (m : List ℤ) (k : Laid rows i m) where
    pub laid_more : i < 8 → (m' : List ℤ) → m' ≡ take (8 * i) m ++ ((row_at rows i).entries ++ drop (8 * i + 8) m) → Laid rows (i + 1) m'
    laid_more h m' e =
        let zeros = replicate (64 - 8 * i) (pos 0) in
        let len = long i (omega arith) in
        let front : take (8 * i) m ≡ in_rows (take i rows) = ap (take (8 * i)) k ∙ take_at (in_rows (take i rows)) zeros (8 * i) len in
        let back : drop (8 * i) m ≡ zeros = ap (drop (8 * i)) k ∙ drop_at (in_rows (take i rows)) zeros (8 * i) len in
        let left : 64 - 8 * i - 8 ≡ 64 - 8 * (i + 1) = omega arith in
        let rest : drop (8 * i + 8) m ≡ replicate (64 - 8 * (i + 1)) (pos 0) =
        sym (drop-drop 8 (8 * i) m) ∙ ap (drop 8) back ∙ drop-replicate 8 (64 - 8 * i) (pos 0) ∙ ap (λ (n : ℕ). replicate n (pos 0)) left in
        let more : in_rows (take (i + 1) rows) ≡ in_rows (take i rows) ++ (row_at rows i).entries =
        ap (λ (n : ℕ). in_rows (take n rows)) (add-one i) ∙ in_more rows i (omega (arith, g.count)) in
        e ∙ rw (front, rest, more) (sym (append_assoc (in_rows (take i rows)) (row_at rows i).entries (replicate (64 - 8 * (i + 1)) (pos 0))))

    pub laid_all : 8 ≤ i → i ≤ 8 → m ≡ in_rows rows
    laid_all h l =
        let e : i ≡ 8 = omega arith in
        k ∙ rw (e, take_all 8 rows (omega (arith, g.count))) (append-nil (in_rows rows))
