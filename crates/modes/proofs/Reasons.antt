-- A number tells its reason.
use mathlib.Core.Path.{◌≡◌, refl, sym, ap, ◌∙◌}
use mathlib.Core.Bool.{cond}
use Prim.Native.Nat.{ℕ}
use native.Mathlib.Omega.{arith}
use lib.Dec.{eqb}
use Rattle.modes.specs.Reasons.{number_of}
use Rattle.modes.specs.declared.Reason.{Reason}
use Rattle.modes.specs.declared.Reason.TheVariants.{Malformed, WordOutside, OutOfOrder, ZeroCoeff, TooHeavy, ModesDiffer, RowsDoNotFit, ProductTooHeavy, ResultTooHeavy, TooManyTerms, OutputTooShort, OccupationOutside, NotFinite, BadBasis, BadReport, BadLine, TooManyLadders, NoSuchParty, DamagedHalf, NoFreeSlot, NoGap, NoSuchSlot}

-- the reason of each number, and the last of any other
unfoldable reason_at : ℕ → Reason
reason_at n =
    cond (eqb n 1) Malformed (
    cond (eqb n 2) WordOutside (
    cond (eqb n 3) OutOfOrder (
    cond (eqb n 4) ZeroCoeff (
    cond (eqb n 5) TooHeavy (
    cond (eqb n 6) ModesDiffer (
    cond (eqb n 7) RowsDoNotFit (
    cond (eqb n 8) ProductTooHeavy (
    cond (eqb n 9) ResultTooHeavy (
    cond (eqb n 10) TooManyTerms (
    cond (eqb n 11) OutputTooShort (
    cond (eqb n 12) OccupationOutside (
    cond (eqb n 13) NotFinite (
    cond (eqb n 14) BadBasis (
    cond (eqb n 15) BadReport (
    cond (eqb n 16) BadLine (
    cond (eqb n 17) TooManyLadders (
    cond (eqb n 18) NoSuchParty (
    cond (eqb n 19) DamagedHalf (
    cond (eqb n 20) NoFreeSlot (
    cond (eqb n 21) NoGap (NoSuchSlot)))))))))))))))))))))

back : (r : Reason) → reason_at (number_of r) ≡ r
unfolding reason_at
back Malformed = refl
back WordOutside = refl
back OutOfOrder = refl
back ZeroCoeff = refl
back TooHeavy = refl
back ModesDiffer = refl
back RowsDoNotFit = refl
back ProductTooHeavy = refl
back ResultTooHeavy = refl
back TooManyTerms = refl
back OutputTooShort = refl
back OccupationOutside = refl
back NotFinite = refl
back BadBasis = refl
back BadReport = refl
back BadLine = refl
back TooManyLadders = refl
back NoSuchParty = refl
back DamagedHalf = refl
back NoFreeSlot = refl
back NoGap = refl
back NoSuchSlot = refl

pub one_reason : (r s : Reason) → number_of r ≡ number_of s → r ≡ s
one_reason r s e = sym (back r) ∙ ap reason_at e ∙ back s

-- and none of them is 0
pub numbered : (r : Reason) → number_of r ≡ 0 → ⊥
unfolding reason_at
numbered r e =
    let last : r ≡ NoSuchSlot = sym (back r) ∙ ap reason_at e in
    omega (arith, e, ap number_of last)
