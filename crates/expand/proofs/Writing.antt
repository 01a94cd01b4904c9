-- The rows of a line from a byte on, written field by field.
use mathlib.Core.Path.{◌≡◌, refl, sym, ap, ap₂, ◌∙◌}
use mathlib.Core.Bool.{Bool, true, false, not, not-not}
use mathlib.Core.List.{List, [], ◌∷◌, ◌++◌, map, append-nil}
use Prim.Native.Nat.{ℕ, ◌+◌, ◌-◌, ◌*◌, ◌^◌, ◌≤◌, ◌<◌}
use native.Mathlib.Nat.{add-zero, pow-suc, le_of_eq}
use native.Mathlib.Omega.{arith}
use lib.IntN.{nat_abs}
use lib.ListN.{length, take, drop, length-append, length-map}
use Rattle.modes.specs.Words.{bit}
use Rattle.modes.specs.declared.Term.{Term}
use Rattle.lent.specs.Bytes.{put}
use Rattle.lent.specs.Rows.{row_bytes, rows_bytes, put_row}
use Rattle.lent.proofs.Puts.{put_join}
use Rattle.lent.proofs.RowLaws.{length_rows, rows_append}
use Rattle.products.specs.Product.{not_empty, branching, row_times}
use Rattle.products.specs.Walk.{One, keeping}
use Rattle.products.specs.declared.ProductHelper.{ProductHelper}
use Rattle.record.proofs.Numbers.{put_none}
use Rattle.lines.specs.Grammar.{Ladder, space, ladder_of}
use Rattle.lines.specs.Refusals.{all_below}
use Rattle.lines.specs.Reading.{front, rest}
use Rattle.lines.proofs.Pieces.{next_field, rest_none}
use Rattle.expand.specs.Rows.{creation, annihilation, rows_after}
use Rattle.expand.specs.Writing.{helper_of, ladder_in, ladders_from, Writable, Wrote}
use Rattle.expand.proofs.Ladders.{first_below, later_below}
use Rattle.expand.proofs.Sizes.{rows_number}
use Rattle.expand.proofs.Steps.{low_row, rows_gone, one_mode, rows_single, rows_twofold}

-- ---- rows of two lists, one after the other

wrote_both : (l m k : List ℕ) (used next end : ℕ) (ts us : List Term) → used ≤ length l → Wrote l used ts next m
    → Wrote m next us end k → Wrote l used (ts ++ us) end k
wrote_both l m k used next end ts us h a b = (
  b.0 ∙ omega (arith, a.0, length-append ts us),
  b.1 ∙ ap (λ (z : List ℕ). put z next (rows_bytes us)) a.1
      ∙ put_join l (rows_bytes ts) (rows_bytes us) used next h (ap (λ (n : ℕ). used + n) (length_rows ts) ∙ sym a.0)
      ∙ ap (put l used) (sym (rows_append ts us)),
)

-- ---- what the code has found

-- a field from `at` + 1 to `end`
pub record Field (line : List ℕ) (at end : ℕ) : Type 0 where
  pub more : at < length line
  pub far : end ≡ (at + 1) + length (front space (drop (at + 1) line))
  pub inside : end ≤ length line

-- the words of t and the ladder x, and whether their product is empty
pub record Words (t : Term) (x : Ladder) (h : ProductHelper) (empty : Bool) : Type 0 where
  pub is : h ≡ helper_of t x
  pub told : empty ≡ not (not_empty h.l_cre h.l_ann h.r_cre h.r_ann)

-- the lowest row of a product that is not empty, and its branching modes
pub record Lowest (t : Term) (h : ProductHelper) (empty : Bool) (low : Term) (left : ℕ) : Type 0 where
  pub some : empty ≡ false
  pub lowest : low ≡ row_times h.l_cre h.l_ann h.r_cre h.r_ann t.coeff 0
  pub small : left < 2 ^ 64
  pub modes : (p : ℕ) → bit left p ≡ branching h.l_cre h.l_ann h.r_cre h.r_ann p

module _ {line : List ℕ} {at : ℕ} {t : Term} {work used : ℕ} (w : Writable line at t work used) where
  -- ---- at the line's end

  module _ (last : at ≡ length line) where
    nothing_left : rest space (drop at line) ≡ []
    nothing_left = rest_none space line at (le_of_eq (sym last))

    pub last_wrote : (l : List ℕ) → Wrote l used (rows_after t (ladders_from line at)) (used + 24) (put_row l used t)
    unfolding rows_after rows_bytes
    last_wrote l = rw nothing_left (refl, ap (put l used) (sym (append-nil (row_bytes t))))

  -- ---- one field more

  module _ {end : ℕ} (f : Field line at end) where
    abbrev x : Ladder
    x = ladder_in line (at + 1) end

    abbrev later : List Ladder
    later = ladders_from line end

    fields : rest space (drop at line) ≡ take (end - (at + 1)) (drop (at + 1) line) ∷ rest space (drop end line)
    fields = next_field space line at end f.more f.far

    ladders : ladders_from line at ≡ x ∷ later
    ladders = ap (map ladder_of) fields

    all_below_is : all_below 64 (x ∷ later) ≡ true
    all_below_is = ap (all_below 64) (sym ladders) ∙ w.inside

    pub ladder_below : (at + 1 ≤ end) × (end ≤ length line) × (x.mode < 64)
    ladder_below = (omega (arith, f.far), f.inside, first_below 64 x later all_below_is)

    -- the measure falls
    pub nearer : length line - end < length line - at
    nearer = omega (arith, f.far, f.more)

    -- there is room for two rows of every row of the ladders to come
    twice_room : used + 24 * (2 ^ length (rest space (drop end line)) * 2) ≤ work
    twice_room = rw (fields, pow-suc 2 (length (rest space (drop end line)))) at w.room

    pub low_writable : {u : Term} → nat_abs u.coeff < 2 ^ 63 → Writable line end u work used
    low_writable h = record { here = f.inside; inside = later_below 64 x later all_below_is; room = omega (arith, twice_room); small = h }

    pub high_writable : (low : Term) {u : Term} {next work2 : ℕ} → next ≡ used + 24 * length (rows_after low later) → work2 ≡ work → nat_abs u.coeff < 2 ^ 63
        → Writable line end u work2 next
    high_writable low e same h =
        let few : length (rows_after low later) ≤ 2 ^ length (rest space (drop end line)) =
        rw (length-map (rest space (drop end line)) ladder_of) at (rows_number low later) in
        record { here = f.inside; inside = later_below 64 x later all_below_is; room = omega (arith, twice_room, few, e, same); small = h }

    module _ {h : ProductHelper} {empty : Bool} (q : Words t x h empty) where
      empty_told : not_empty t.cre t.ann (creation x) (annihilation x) ≡ not empty
      empty_told =
          ap (λ (k : ProductHelper). not_empty k.l_cre k.l_ann k.r_cre k.r_ann) (sym q.is)
          ∙ sym (not-not (not_empty h.l_cre h.l_ann h.r_cre h.r_ann)) ∙ ap not (sym q.told)

      -- no row
      pub gone_wrote : empty ≡ true → (l : List ℕ) → Wrote l used (rows_after t (ladders_from line at)) used l
      unfolding rows_bytes
      gone_wrote e l = rw (ladders, rows_gone t x (empty_told ∙ ap not e) later) (sym (add-zero used), sym (put_none l used))

      module _ {low : Term} {left : ℕ} (r : Lowest t h empty low left) where
        full : not_empty t.cre t.ann (creation x) (annihilation x) ≡ true
        full = empty_told ∙ ap not r.some

        low_is : low ≡ low_row t x
        low_is = r.lowest ∙ ap (λ (k : ProductHelper). row_times k.l_cre k.l_ann k.r_cre k.r_ann t.coeff 0) q.is

        branches : (p : ℕ) → bit left p ≡ branching t.cre t.ann (creation x) (annihilation x) p
        branches p = r.modes p ∙ ap (λ (k : ProductHelper). branching k.l_cre k.l_ann k.r_cre k.r_ann p) q.is

        pub left_one : 0 < left → One left
        left_one = one_mode t x left r.small branches

        -- the rows of the lowest
        pub single_wrote : left ≡ 0 → (l m : List ℕ) (next : ℕ) → Wrote l used (rows_after low later) next m → Wrote l used (rows_after t (ladders_from line at)) next m
        single_wrote none l m next v = rw (ladders, rows_single t x left r.small branches full none later, ← low_is) v

        -- and those of the one that keeps the ladder's mode
        pub twofold_wrote : 0 < left → (l m k : List ℕ) (next last : ℕ) (high : Term) → high ≡ keeping left low → used ≤ length l
            → Wrote l used (rows_after low later) next m → Wrote m next (rows_after high later) last k → Wrote l used (rows_after t (ladders_from line at)) last k
        twofold_wrote some l m k next last high kept fits v v2 =
            let both : rows_after t (x ∷ later) ≡ rows_after low later ++ rows_after high later =
            rows_twofold t x left r.small branches full some later
            ∙ sym (ap₂ (λ (u v : Term). rows_after u later ++ rows_after v later) low_is (kept ∙ ap (keeping left) low_is)) in
            rw (ladders, both) (wrote_both l m k used next last (rows_after low later) (rows_after high later) fits v v2)
