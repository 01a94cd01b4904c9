-- `products::keep` meets its contract: the modes that it passes are those of the kept mode's two ladders.
use mathlib.Core.Path.{◌≡◌, refl, ap, ap₂, ◌∙◌}
use mathlib.Core.Bool.{Bool, true}
use Prim.Native.Nat.{ℕ, ◌+◌, ◌-◌, ◌^◌, ◌≤◌, ◌<◌}
use native.Mathlib.Nat.{le_of_suc-le-suc}
use native.Mathlib.Omega.{arith}
use lib.Bits.{bit_and}
use lib.Pow.{pow_pos, pow_mono}
use mir.Facts.{to_z-of_z}
use mir.Syntax.{w64}
use mir.Val.{SFits, to_z, of_z}
use Rattle.modes.specs.Bools.{◌⊕◌}
use Rattle.modes.specs.Words.{bit}
use Rattle.modes.specs.Counts.{odd, odd_exchanges}
use Rattle.modes.proofs.Single.{odd_above, odd_below}
use Rattle.integers.proofs.SignedNumbers.{abs_fits}
use Rattle.lent.proofs.RowLaws.{term_of}
use Rattle.products.specs.Operators.{signed}
use Rattle.products.specs.Walk.{One, keeping}
use Rattle.products.proofs.Signs.{abs_signed}
use Rattle.products.proofs.Walks.{kept_sign}
use Rattle.products.proofs.keep.Goals as goal

above : (word mode : ℕ) → word < 2 ^ 64 → (one : One mode) → odd 64 (bit (bit_and word ((2 ^ 64 - 1) - ((mode - 1) + mode)))) ≡ odd_exchanges 64 (bit mode) (bit word)
above word mode h one = rw one.is (odd_above 64 word one.at h one.small)

below : (word mode : ℕ) → word < 2 ^ 64 → (one : One mode) → odd 64 (bit (bit_and word (mode - 1))) ≡ odd_exchanges 64 (bit word) (bit mode)
below word mode h one = rw one.is (odd_below 64 word one.at h one.small)

at_least_one : (mode : ℕ) → One mode → 1 ≤ mode
at_least_one mode one = omega (arith, pow_pos one.at, one.is)

pub overflow_sub-passed : goal.overflow_sub-passed
overflow_sub-passed c = at_least_one _ c.requires.0

pub overflow_add-passed : goal.overflow_add-passed
overflow_add-passed c =
    let one = c.requires.0 in
    let half : 2 ^ one.at ≤ 2 ^ 63 = pow_mono (le_of_suc-le-suc one.small) in record { fits = omega (arith, pow_pos one.at, one.is) }

pub overflow_sub-passed-2 : goal.overflow_sub-passed-2
overflow_sub-passed-2 c = at_least_one _ c.requires.0

pub returns : goal.returns
returns c =
    let row = c.args.row in
    let mode = c.args.mode in
    let one = c.requires.0 in
    let signed_coeff = c.signed_coeff-coeff in
    let small : SFits w64 signed_coeff.result = record { sfits = signed_coeff.type_inv } in
    let same : to_z w64 (of_z w64 signed_coeff.result) ≡ (keeping mode row).coeff =
    to_z-of_z small ∙ signed_coeff.ensures
    ∙ ap₂ signed
    (c.mul.ensures ∙ ap (λ (b : Bool). true ⊕ b)
    (c.sign_of_bits.ensures ∙ kept_sign row.cre row.ann mode _ _ (above row.cre mode c.struct_known-1.given.0.fits one)
    (below row.ann mode c.struct_known-1.given.1.0.fits one)))
    (to_z-of_z (abs_fits row.coeff c.requires.1)) in
    (term_of refl refl same, rw (same, abs_signed) c.requires.1)
