-- The three ways in which `mul_cmpnts` answers, and that the walk's rows are the product's, with room for them.
use mathlib.Core.Path.{◌≡◌, refl, sym, ap, ap₂, ◌∙◌}
use mathlib.Core.Bool.{true, false}
use mathlib.Core.List.{List, [], ◌++◌, map}
use Prim.Native.Nat.{ℕ, ◌+◌, ◌-◌, ◌*◌, ◌/◌, ◌^◌, ◌≤◌, ◌<◌}
use native.Mathlib.Nat.{mul-div_cancel_left, zero-add}
use native.Mathlib.Omega.{arith}
use lib.Count.{ones}
use lib.Dec.{lit<}
use lib.Pow.{pow_pos}
use lib.IntN.{ℤ, pos}
use lib.ListN.{length, take, drop}
use lib.Seq.{take_at}
use mir.Syntax.{w64}
use mir.Val.{SFits, to_z, of_z}
use mir.Facts.{to_z-of_z}
use borrow.Author.Tests.{lt-ltb, le-ltb}
use Rattle.modes.specs.Words.{bit}
use Rattle.modes.specs.Counts.{count}
use Rattle.std.specs.Prelude.{Result, Ok}
use Rattle.modes.specs.Answers.{rows_do_not_fit, wrote}
use Rattle.modes.specs.declared.Refusal.{Refusal}
use Rattle.modes.specs.declared.Written.{Written}
use Rattle.modes.specs.declared.Term.{Term}
use Rattle.modes.proofs.Counts.{ones_word}
use Rattle.lent.specs.Bytes.{put, zeros}
use Rattle.lent.specs.Rows.{row_bytes, rows_bytes}
use Rattle.lent.specs.Outputs.{refused_output, Gives}
use Rattle.lent.proofs.RowLaws.{length_rows}
use Rattle.products.specs.Product.{choices, not_empty, branching, row_times, rows_times, multiplied}
use Rattle.products.specs.Walk.{walk}
use Rattle.products.specs.Fitting.{Fitting, rows_of}
use Rattle.products.specs.declared.ProductHelper.{ProductHelper}
use Rattle.products.proofs.Walks.{none_left, walk_none}
use Rattle.products.proofs.WalkRows.{walk_rows, branching_number}
use Rattle.products.proofs.Choices.{length_map, choices_number}

-- the code's count of branching modes
pub bifurcation_number : (Lc La Rc Ra w : ℕ) → w < 2 ^ 64 → ((p : ℕ) → bit w p ≡ branching Lc La Rc Ra p) → ones w ≡ count 64 (branching Lc La Rc Ra)
bifurcation_number Lc La Rc Ra w h is = ones_word w h ∙ branching_number Lc La Rc Ra w h is

-- ---- the three answers

abbrev fills : ℕ → ℕ → Result Written Refusal
fills len branches = Ok (wrote len branches)

module _ (Lc La Rc Ra : ℕ) where
  pub rows_none : (z : ℤ) → not_empty Lc La Rc Ra ≡ false → rows_times Lc La Rc Ra z ≡ []
  unfolding rows_times
  rows_none z e = rw e

  pub rows_full : (z : ℤ) → not_empty Lc La Rc Ra ≡ true → rows_times Lc La Rc Ra z ≡ map (row_times Lc La Rc Ra z) (choices 64 0 (branching Lc La Rc Ra) 0)
  unfolding rows_times
  rows_full z e = rw e

  pub rows_number : (z : ℤ) → not_empty Lc La Rc Ra ≡ true → length (rows_times Lc La Rc Ra z) ≡ 2 ^ count 64 (branching Lc La Rc Ra)
  rows_number z e = ap length (rows_full z e) ∙ length_map (row_times Lc La Rc Ra z) (choices 64 0 (branching Lc La Rc Ra) 0) ∙ choices_number (branching Lc La Rc Ra)

  -- empty: no rows, and the output all zero
  pub empty_is : (room : ℕ) (after : List ℕ) → not_empty Lc La Rc Ra ≡ false → after ≡ zeros room
      → Gives (multiplied Lc La Rc Ra room) (Ok (wrote 0 0)) after
  unfolding multiplied rows_bytes
  empty_is room after e z =
      let all : room ≡ room - 0 = omega arith in
      rw (rows_none (pos 1) e, e) (record { answer = refl; bytes = z ∙ ap zeros all })

  -- not empty, and no room
  pub seven_is : (room : ℕ) → not_empty Lc La Rc Ra ≡ true → room < 24 * 2 ^ count 64 (branching Lc La Rc Ra)
      → refused_output room rows_do_not_fit ≡ multiplied Lc La Rc Ra room
  unfolding multiplied
  seven_is room e l = rw (e, lt-ltb room _ l)

  -- the rows, put at the front of what the output held, and zeros past them
  pub gives_rows : (l : List ℕ) → not_empty Lc La Rc Ra ≡ true → 24 * 2 ^ count 64 (branching Lc La Rc Ra) ≤ length l → (end branches : ℕ) (m after : List ℕ)
      → end ≡ 0 + 24 * length (rows_times Lc La Rc Ra (pos 1)) → m ≡ put l 0 (rows_bytes (rows_times Lc La Rc Ra (pos 1))) → length m ≡ length l
      → branches ≡ end / 24 → after ≡ take end m ++ zeros (length m - end)
      → Gives (multiplied Lc La Rc Ra (length l)) (Ok (wrote end branches)) after
  unfolding multiplied put
  gives_rows l full room end branches m after ee em el eb ea = record {
    answer =
        rw (full, le-ltb (length l) _ room)
        (ap₂ fills (at_end ∙ sym size) (eb ∙ ap (λ (n : ℕ). n / 24) at_end ∙ mul-div_cancel_left (length (rows_times Lc La Rc Ra (pos 1))) (lit< tt)));
    bytes = ea ∙ rw (full, le-ltb (length l) _ room) (ap₂ (λ (x y : List ℕ). x ++ y)
        (ap (take end) em ∙ take_at (rows_bytes (rows_times Lc La Rc Ra (pos 1))) (drop (0 + length (rows_bytes (rows_times Lc La Rc Ra (pos 1)))) l) end (size ∙ sym at_end))
        (ap₂ (λ (n k : ℕ). zeros (n - k)) el (at_end ∙ sym size)));
  }
    where
      size : length (rows_bytes (rows_times Lc La Rc Ra (pos 1))) ≡ 24 * length (rows_times Lc La Rc Ra (pos 1))
      size = length_rows (rows_times Lc La Rc Ra (pos 1))

      at_end : end ≡ 24 * length (rows_times Lc La Rc Ra (pos 1))
      at_end = ee ∙ zero-add _

-- the lowest row's coefficient is a number of 64 bits, which its bits give back
pub lowest_is : (h : ProductHelper) {z : ℤ} → SFits w64 z → (t : Term) → t ≡ row_times h.l_cre h.l_ann h.r_cre h.r_ann (to_z w64 (of_z w64 z)) 0
    → t ≡ row_times h.l_cre h.l_ann h.r_cre h.r_ann z 0
lowest_is h fits t e = e ∙ ap (λ (z : ℤ). row_times h.l_cre h.l_ann h.r_cre h.r_ann z 0) (to_z-of_z fits)

-- the walk's rows are the product's, and there is room for them from `at` on
module _ (h : ProductHelper) (w : ℕ) (small : w < 2 ^ 64) (z : ℤ) (at room : ℕ) (f : Fitting h w (room - at)) where
  number : 2 ^ count 64 (bit w) ≡ length (rows_of h z)
  number =
      ap (λ (n : ℕ). 2 ^ n) (branching_number h.l_cre h.l_ann h.r_cre h.r_ann w small f.modes) ∙ sym
      (rows_number h.l_cre h.l_ann h.r_cre h.r_ann z f.full)

  pub walk_fits : at + 24 * 2 ^ count 64 (bit w) ≤ room
  walk_fits = let some = pow_pos (count 64 (bit w)) in omega (arith, rw (ones_word w small) at f.fit)

  pub walk_ends : at + 24 * 2 ^ count 64 (bit w) ≡ at + 24 * length (rows_of h z)
  walk_ends = ap (λ (n : ℕ). at + 24 * n) number

  pub walk_is : (t : Term) → t ≡ row_times h.l_cre h.l_ann h.r_cre h.r_ann z 0 → walk (count 64 (bit w)) w t ≡ rows_of h z
  walk_is t e =
      ap (walk (count 64 (bit w)) w) e ∙ walk_rows h.l_cre h.l_ann h.r_cre h.r_ann w small f.modes z
      ∙ sym (rows_full h.l_cre h.l_ann h.r_cre h.r_ann z f.full)

  -- where no mode branches, there is one row
  module _ (alone : w ≡ 0) where
    pub one_fits : at + 24 ≤ room
    one_fits = rw (none_left w alone) at walk_fits

    pub one_ends : at + 24 ≡ at + 24 * length (rows_of h z)
    one_ends = rw (none_left w alone) at walk_ends

    pub one_is : (t : Term) → t ≡ row_times h.l_cre h.l_ann h.r_cre h.r_ann z 0 → row_bytes t ≡ rows_bytes (rows_of h z)
    one_is t e = sym (walk_none w t alone) ∙ ap rows_bytes (walk_is t e)

-- from the front of the output on
module _ (h : ProductHelper) (w : ℕ) (small : w < 2 ^ 64) (room : ℕ) (f : Fitting h w room) where
  pub from_front : Fitting h w (room - 0)
  from_front = record { full = f.full; modes = f.modes; fit = omega (arith, f.fit) }

  pub rows_room : 24 * 2 ^ count 64 (branching h.l_cre h.l_ann h.r_cre h.r_ann) ≤ room
  rows_room = rw (bifurcation_number h.l_cre h.l_ann h.r_cre h.r_ann w small f.modes) at f.fit

  pub end_inside : (z : ℤ) (end len : ℕ) → end ≡ 0 + 24 * length (rows_of h z) → len ≡ room → end ≤ len
  end_inside z end len e k = omega (arith, e, k, rows_room, rows_number h.l_cre h.l_ann h.r_cre h.r_ann z f.full)
