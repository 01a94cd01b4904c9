-- `expand::put_rows` meets its contract: each field leaves fewer bytes of the line, and the rows of the two calls stand one after the other.
use mathlib.Core.Path.{◌≡◌, ◌∙◌}
use mathlib.Core.Bool.{Bool, false}
use mathlib.Core.List.{List}
use Prim.Native.Nat.{ℕ, ◌+◌, ◌^◌, ◌≤◌, ◌<◌}
use native.Mathlib.Omega.{arith}
use borrow.Author.Rules.{rules}
use lib.IntN.{nat_abs}
use lib.ListN.{length, drop}
use mir.Syntax.{w64}
use mir.Val.{to_z, of_z}
use Rattle.modes.specs.Words.{bit}
use Rattle.modes.specs.declared.Term.{Term}
use Rattle.integers.proofs.SignedNumbers.{abs_fits}
use Rattle.products.specs.Product.{branching, row_times}
use Rattle.products.specs.declared.ProductHelper.{ProductHelper}
use Rattle.products.proofs.Multiplied.{lowest_is}
use Rattle.lines.specs.Grammar.{space}
use Rattle.lines.specs.Reading.{front}
use Rattle.expand.specs.Writing.{Writable}
use Rattle.expand.proofs.Writing.{Field, Lowest, last_wrote, ladder_below, nearer, low_writable, high_writable}
use Rattle.expand.proofs.Writing.{gone_wrote, left_one, single_wrote, twofold_wrote}
use Rattle.expand.proofs.+put_rows.Goals as goal

-- ---- what the code has found

-- one field more
field : {line : List ℕ} {at work used end : ℕ} {t : Term} → Writable line at t work used → (at ≡ length line → ⊥)
    → (end ≡ (at + 1) + length (front space (drop (at + 1) line))) × (end ≤ length line) → Field line at end
field w more found = record { more = omega (arith, w.here, more); far = found.0; inside = found.1 }

-- of a product that is not empty
lowest : {t : Term} {h : ProductHelper} {empty : Bool} {low : Term} {left : ℕ} → nat_abs t.coeff < 2 ^ 63 → empty ≡ false
    → low ≡ row_times h.l_cre h.l_ann h.r_cre h.r_ann (to_z w64 (of_z w64 t.coeff)) 0 → left < 2 ^ 64
    → ((p : ℕ) → bit left p ≡ branching h.l_cre h.l_ann h.r_cre h.r_ann p) → Lowest t h empty low left
lowest {t} {h} small some low few modes =
    record { some = some; lowest = lowest_is h (abs_fits t.coeff small) _ low; small = few; modes = modes }

pub returns-then-at-line : goal.returns-then-at-line
returns-then-at-line t c =
    let wrote = last_wrote c.requires c.if-at-line.true c.args.work.now in (wrote.0, c.put_row.ensures ∙ wrote.1)

pub helper_at-helper-requires : goal.helper_at-helper-requires
helper_at-helper-requires t c =
    ladder_below c.requires (field c.requires c.if-at-line.false c.piece_end-end.ensures)

pub returns-then-destroys : goal.returns-then-destroys
returns-then-destroys t c =
    gone_wrote c.requires (field c.requires c.if-at-line.false c.piece_end-end.ensures)
    (record { is = c.helper_at-helper.ensures; told = c.destroys.ensures })
    c.if-destroys.true c.args.work.now

pub put_rows-next-requires : goal.put_rows-next-requires
put_rows-next-requires t c =
    let f = field c.requires c.if-at-line.false c.piece_end-end.ensures in
    (omega (arith, c.decreases, nearer c.requires f), low_writable c.requires f c.lowest_row-low.ensures.1)

pub returns-then-left-eq0 : goal.returns-then-left-eq0
returns-then-left-eq0 t c =
    single_wrote c.requires (field c.requires c.if-at-line.false c.piece_end-end.ensures)
    (record { is = c.helper_at-helper.ensures; told = c.destroys.ensures })
    (lowest c.requires.small c.if-destroys.false c.lowest_row-low.ensures.0 c.bifurcations-left.type_inv c.bifurcations-left.ensures)
    c.if-left-eq0.true c.args.work.now _ _
    c.put_rows-next.ensures

pub keep-requires : goal.keep-requires
keep-requires t c = (
  left_one c.requires (field c.requires c.if-at-line.false c.piece_end-end.ensures)
      (record { is = c.helper_at-helper.ensures; told = c.destroys.ensures })
      (lowest c.requires.small c.if-destroys.false c.lowest_row-low.ensures.0 c.bifurcations-left.type_inv c.bifurcations-left.ensures)
      (omega (arith, c.if-left-eq0.false)),
  search rules,
)

pub put_rows-requires : goal.put_rows-requires
put_rows-requires t c =
    let f = field c.requires c.if-at-line.false c.piece_end-end.ensures in
    let first = c.put_rows-next in (
      omega (arith, c.decreases, nearer c.requires f),
      high_writable c.requires f c.lowest_row-low.result first.ensures.0 first.auto.work c.keep.ensures.1,
    )

pub returns : goal.returns
returns t c =
    twofold_wrote c.requires (field c.requires c.if-at-line.false c.piece_end-end.ensures)
    (record { is = c.helper_at-helper.ensures; told = c.destroys.ensures })
    (lowest c.requires.small c.if-destroys.false c.lowest_row-low.ensures.0 c.bifurcations-left.type_inv c.bifurcations-left.ensures)
    (omega (arith, c.if-left-eq0.false))
    c.args.work.now _ _ _ _ c.keep.result c.keep.ensures.0 (omega (arith, c.requires.room)) c.put_rows-next.ensures
    c.put_rows.ensures
