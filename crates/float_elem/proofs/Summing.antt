-- The running sum, term by term: what the sums of all parts so far show.
use mathlib.Core.Path.{◌≡◌, refl, sym, ap, ◌∙◌}
use mathlib.Core.Bool.{Bool, true, false}
use mathlib.Core.List.{List, [], ◌∷◌}
use Prim.Native.Nat.{ℕ, suc, ◌+◌, ◌^◌, ◌<◌}
use native.Mathlib.Numerals.{add-one}
use lib.Bits.{bit_xor}
use lib.ListN.{length, get_or}
use lib.Ieee.{Float, nan}
use borrow.Author.Tests.{ne_eqb}
use Rattle.std.specs.Prelude.{Ok, Err}
use Rattle.modes.specs.Answers.{refusal, none}
use Rattle.modes.specs.declared.Reason.TheVariants.{NotFinite}
use Rattle.products.specs.Apply.{applied}
use Rattle.products.specs.declared.Blocked.{Blocked}
use Rattle.products.specs.declared.ApplyResult.TheVariants.{Zero}
use Rattle.products.proofs.Outcomes.{gone_where_zero}
use Rattle.products.proofs.Changes.{elsewhere}
use Rattle.modes.specs.Refusals.{first_refusal, need, unless}
use Rattle.modes.proofs.FirstRefusals.{first_starts, first_goes, first_stays}
use Rattle.float_elem.specs.declared.Complex64.{Complex64}
use Rattle.float_elem.specs.Sums.{plus_zero, added_float, joined, sum_to}
use Rattle.float_elem.specs.Elements.{all_finite, sum_at, sum_refusal, summed}

-- ---- a term that is blocked on the ket, or changes other modes than those in which bra and ket differ

zero : (bra ket cre ann : ℕ) (c x : Float) {b : Blocked} → Zero b ≡ applied cre ann ket → x ≡ joined bra ket cre ann c x
zero bra ket cre ann c x e = sym (ap (added_float bra c x) (gone_where_zero cre ann ket (sym e)))

pub joined_zero : (bra ket cre ann : ℕ) (c x : Complex64) {b : Blocked} → Zero b ≡ applied cre ann ket
    → (x.re ≡ joined bra ket cre ann c.re x.re) × (x.im ≡ joined bra ket cre ann c.im x.im)
joined_zero bra ket cre ann c x e = (zero bra ket cre ann c.re x.re e, zero bra ket cre ann c.im x.im e)

joined_elsewhere : (bra ket cre ann : ℕ) (c x : Float) → cre < 2 ^ 64 → ann < 2 ^ 64 → (bit_xor cre ann ≡ bit_xor bra ket → ⊥)
    → x ≡ joined bra ket cre ann c x
joined_elsewhere bra ket cre ann c x hc ha n =
    sym (elsewhere cre ann ket hc ha bra n (added_float bra c x) x refl (λ word sign o. rw (ne_eqb word bra o)))

-- ---- the running sums

pub record Running (bra ket : ℕ) (cre ann : List ℕ) (re im : List Float) (x y : Float) (i : ℕ) : Type 0 where
  pub res : x ≡ sum_to bra ket cre ann re i
  pub ims : y ≡ sum_to bra ket cre ann im i
  pub fine : first_refusal (sum_at bra ket cre ann (re ∷ im ∷ [])) i ≡ none
  pub finite_now : all_finite (x ∷ y ∷ []) ≡ true

module _ (bra ket : ℕ) (cre ann : List ℕ) (re im : List Float) where
  pub sums_start : (i : ℕ) → i ≡ 0 → Running bra ket cre ann re im plus_zero plus_zero i
  unfolding sum_to
  sums_start i e = rw e (record { res = refl; ims = refl; fine = first_starts _; finite_now = refl })

  part_on : (cs : List Float) (i : ℕ) (x z : Float) → x ≡ sum_to bra ket cre ann cs i → z ≡ joined bra ket (get_or cre i 0) (get_or ann i 0) (get_or cs i nan) x
      → z ≡ sum_to bra ket cre ann cs (suc i)
  unfolding sum_to
  part_on cs i x z e h = h ∙ ap (joined bra ket (get_or cre i 0) (get_or ann i 0) (get_or cs i nan)) e

  module _ (x y : Float) (i : ℕ) (so : Running bra ket cre ann re im x y i) (z w : Float)
      (ez : z ≡ joined bra ket (get_or cre i 0) (get_or ann i 0) (get_or re i nan) x)
      (ew : w ≡ joined bra ket (get_or cre i 0) (get_or ann i 0) (get_or im i nan) y) where
    at : (b : Bool) → all_finite (z ∷ w ∷ []) ≡ b → sum_at bra ket cre ann (re ∷ im ∷ []) i ≡ need b (refusal NotFinite 1 i)
    at b e = rw (← part_on re i x z so.res ez, ← part_on im i y w so.ims ew, e)

    pub sums_go : all_finite (z ∷ w ∷ []) ≡ true → (j : ℕ) → j ≡ i + 1 → Running bra ket cre ann re im z w j
    sums_go f j e =
        rw (e, add-one) (record {
          res = part_on re i x z so.res ez;
          ims = part_on im i y w so.ims ew;
          fine = rw add-one at (first_goes _ i so.fine (at true f));
          finite_now = f;
        })

    pub sums_stop : all_finite (z ∷ w ∷ []) ≡ false → i < length cre → Err (refusal NotFinite 1 i) ≡ summed bra ket cre ann (re ∷ im ∷ [])
    unfolding sum_refusal unless
    sums_stop e l = rw (← first_stays _ i so.fine _ (sym (at false e)) (length cre) l)

  -- past a term that adds nothing
  pub sums_stay : (x y : Float) (i : ℕ) → Running bra ket cre ann re im x y i → get_or cre i 0 < 2 ^ 64 → get_or ann i 0 < 2 ^ 64
      → (bit_xor (get_or cre i 0) (get_or ann i 0) ≡ bit_xor bra ket → ⊥) → (j : ℕ) → j ≡ i + 1 → Running bra ket cre ann re im x y j
  sums_stay x y i so hc ha n =
      let stays : (c z : Float) → z ≡ joined bra ket (get_or cre i 0) (get_or ann i 0) c z =
      λ c z. joined_elsewhere bra ket (get_or cre i 0) (get_or ann i 0) c z hc ha n in
      sums_go x y i so x y (stays (get_or re i nan) x) (stays (get_or im i nan) y) so.finite_now

  pub sums_end : (x y : Float) (i : ℕ) → Running bra ket cre ann re im x y i → i ≡ length cre → Ok (x ∷ y ∷ []) ≡ summed bra ket cre ann (re ∷ im ∷ [])
  unfolding sum_refusal unless
  sums_end x y i so e = rw (← e, so.fine, ← so.res, ← so.ims)
