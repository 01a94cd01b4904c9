-- The rows of one product after those in the work: each way through `append`.
use mathlib.Core.Path.{◌≡◌, refl, sym, ap, ap₂, ◌∙◌, subst}
use mathlib.Core.Bool.{Bool, true, false, not}
use mathlib.Core.List.{List, append-nil}
use Prim.Native.Nat.{ℕ, ◌+◌, ◌-◌, ◌*◌, ◌^◌, ◌≤◌, ◌<◌}
use native.Mathlib.Nat.{add-zero}
use native.Mathlib.Omega.{arith}
use lib.Count.{ones}
use lib.Dec.{leb}
use lib.IntN.{ℤ}
use lib.ListN.{length}
use mir.Syntax.{w64}
use mir.Val.{SFits, to_z, of_z}
use mir.Facts.{to_z-of_z}
use borrow.Author.Tests.{leb-true, leb-false}
use Rattle.modes.specs.Words.{bit}
use Rattle.modes.specs.declared.Term.{Term}
use Rattle.lent.specs.Bytes.{put}
use Rattle.modes.specs.Every.{Every}
use Rattle.lent.specs.Rows.{rows_bytes, rows_at, Fit}
use Rattle.lent.proofs.RowLaws.{rows_put_all}
use Rattle.products.specs.Product.{not_empty, branching, rows_times}
use Rattle.products.specs.Fitting.{rows_of}
use Rattle.products.specs.declared.ProductHelper.{ProductHelper}
use Rattle.products.proofs.Multiplied.{bifurcation_number, rows_none, rows_number}
use Rattle.pairs.specs.Filling.{Room, Appended, fits, over}
use Rattle.pairs.specs.declared.Fill.{Fill}

-- what `destroys` answers
pub empty_where : (d x : Bool) → d ≡ not x → d ≡ true → x ≡ false
empty_where d true e h = sym h ∙ e
empty_where d false e h = refl

pub full_where : (d x : Bool) → d ≡ not x → d ≡ false → x ≡ true
full_where d true e h = refl
full_where d false e h = sym h ∙ e

module _ (h : ProductHelper) (z : ℤ) (l : List ℕ) (s : Fill) (r : Room l s) where
  -- an empty product has no rows
  pub none_appended : not_empty h.l_cre h.l_ann h.r_cre h.r_ann ≡ false → Appended (rows_of h z) l s l s
  none_appended e =
      rw (rows_none h.l_cre h.l_ann h.r_cre h.r_ann z e)
      (fits (omega arith) (omega arith) r.fits (λ count q. ap (rows_at l 0) (add-zero count) ∙ sym (append-nil (rows_at l 0 count))))

  -- w are the branching modes of a product that is not empty
  module _ (w : ℕ) (small : w < 2 ^ 64) (full : not_empty h.l_cre h.l_ann h.r_cre h.r_ann ≡ true)
      (is : (p : ℕ) → bit w p ≡ branching h.l_cre h.l_ann h.r_cre h.r_ann p) where
    number : 2 ^ ones w ≡ length (rows_of h z)
    number =
        ap (λ (n : ℕ). 2 ^ n) (bifurcation_number h.l_cre h.l_ann h.r_cre h.r_ann w small is)
        ∙ sym (rows_number h.l_cre h.l_ann h.r_cre h.r_ann z full)

    pub too_many : leb (24 * 2 ^ ones w) (length l - s.held) ≡ false → (m : List ℕ)
        → Appended (rows_of h z) l s m (record { used = s.used; held = length l + 1 })
    too_many e m = over (omega (arith, number, leb-false (24 * 2 ^ ones w) (length l - s.held) e)) (omega arith)

    module _ (e : leb (24 * 2 ^ ones w) (length l - s.held) ≡ true) where
      enough : 24 * 2 ^ ones w ≤ length l - s.held
      enough = leb-true (24 * 2 ^ ones w) (length l - s.held) e

      grown : s.held + 24 * length (rows_of h z) ≤ length l
      grown = omega (arith, number, enough, r.fits)

      pub held_fits : (end : ℕ) → end ≡ s.used + 24 * length (rows_of h z) → s.held + (end - s.used) ≤ length l
      held_fits end e = omega (arith, e, grown)

      pub appended : Every Fit (rows_of h z) → (end : ℕ) (m : List ℕ) → end ≡ s.used + 24 * length (rows_of h z) → m ≡ put l s.used (rows_bytes (rows_of h z))
          → Appended (rows_of h z) l s m (record { used = end; held = s.held + (end - s.used) })
      appended fit end m ee em =
          fits (omega (arith, ee)) ee (omega (arith, ee, grown))
          (λ count q. ap (λ (k : List ℕ). rows_at k 0 (count + length (rows_of h z))) (em ∙ ap (λ (o : ℕ). put l o (rows_bytes (rows_of h z))) q)
          ∙ rows_put_all l count (rows_of h z) (omega (arith, q, grown, r.few)) fit)

-- the rows by the words of two terms, as the code hands them on
pub appended_as : (t u : Term) (z : ℤ) (h : ProductHelper) → h ≡ record { l_cre = t.cre; l_ann = t.ann; r_cre = u.cre; r_ann = u.ann } → SFits w64 z
    → {l m : List ℕ} {s r : Fill} → Appended (rows_of h (to_z w64 (of_z w64 z))) l s m r → Appended (rows_times t.cre t.ann u.cre u.ann z) l s m r
appended_as t u z h e f {l} {m} {s} {r} g = subst (λ (ts : List Term). Appended ts l s m r) (ap₂ rows_of e (to_z-of_z f)) g
