-- A row closed: what stands at the front then, and that nothing behind it is written.
use mathlib.Core.Path.{◌≡◌, sym, ap, ◌∙◌}
use mathlib.Core.List.{List}
use Prim.Native.Nat.{ℕ, ◌+◌, ◌*◌, ◌-◌, ◌≤◌}
use native.Mathlib.Nat.{zero-add}
use native.Mathlib.Omega.{arith}
use lib.ListN.{length, take, drop}
use lib.Seq.{drop-drop}
use mir.Syntax.{w64}
use mir.Val.{to_z, of_z}
use Rattle.modes.specs.declared.Term.{Term}
use Rattle.lent.specs.Bytes.{num, num_at, word_at}
use Rattle.lent.specs.Rows.{Fit, row_bytes, row_at, rows_at, put_row}
use Rattle.lent.proofs.Puts.{length_put, drop_put}
use Rattle.lent.proofs.RowLaws.{term_of, length_row, rows_put}
use Rattle.collect.specs.Steps.{stored, Closed}

pub closed_stored : (p : ℕ) (x : Term) (l m : List ℕ) → 24 * p + 24 ≤ length l → Fit x → (of_z w64 x.coeff ≡ 0 → ⊥) → m ≡ put_row l (24 * p) x
    → Closed p x l m (p + 1)
closed_stored p x l m h f z e = rw e record {
  count = omega arith;
  len = length_put l (24 * p) (row_bytes x) room;
  ahead = drop_put l (24 * p) (row_bytes x) room (24 * p + 24) (rw (length_row x) (omega arith));
  rows = stored (λ q. z (ap (of_z w64) q)) (ap (λ (o : ℕ). rows_at (put_row l o x) 0 (p + 1)) (sym (zero-add (24 * p))) ∙ rows_put l 0 p x (omega arith) f);
}
  where
    room : 24 * p + length (row_bytes x) ≤ length l
    room = rw (length_row x) h

-- bytes that agree from o on agree further on, and hold one row at o
pub same_from : (l m : List ℕ) (o k : ℕ) → o ≤ k → drop o m ≡ drop o l → drop k m ≡ drop k l
same_from l m o k h e =
    let d : o + (k - o) ≡ k = omega arith in
    rw (← d) (sym (drop-drop (k - o) o m) ∙ ap (drop (k - o)) e ∙ drop-drop (k - o) o l)

pub same_row : (l m : List ℕ) (o : ℕ) → drop o m ≡ drop o l → row_at m o ≡ row_at l o
unfolding row_at num_at
same_row l m o e = term_of (word o (omega arith)) (word (o + 8) (omega arith)) (ap (to_z w64) (word (o + 16) (omega arith)))
  where
    word : (k : ℕ) → o ≤ k → word_at m k ≡ word_at l k
    word k h = ap (λ (b : List ℕ). num (take 8 b)) (same_from l m o k h e)
