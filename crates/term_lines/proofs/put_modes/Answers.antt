-- `term_lines::put_modes` meets its contract: the ladders of the modes that are done, and those of the rest to come.
use mathlib.Core.Path.{◌≡◌, refl, ◌∙◌}
use mathlib.Core.List.{List}
use Prim.Native.Nat.{ℕ, ◌+◌, ◌≤◌}
use native.Mathlib.Omega.{arith}
use lib.ListN.{length, length-set}
use Rattle.modes.specs.Words.{bit, lowest_mode}
use Rattle.decimals.specs.Decimal.{field}
use Rattle.term_lines.proofs.Modes.{Writing, writing_starts, writing_ends, writing_room, writing_goes}
use Rattle.term_lines.proofs.put_modes.Goals as goal

pub loop-rest-init : goal.loop-rest-init
loop-rest-init c =
    (writing_starts c.args.kind c.args.word c.args.s.now c.args.at c.ranges.word.fits (omega (arith, c.requires)), refl)

-- the lowest mode of the rest has room
mode_room : (kind word at : ℕ) (l : List ℕ) {m : List ℕ} {end rest : ℕ} → at + 256 ≤ length l → Writing kind word l at m end rest → (rest ≡ 0 → ⊥)
    → length m ≡ length l → end + 1 + length (field (lowest_mode 64 (bit rest)) kind) ≤ length m
mode_room kind word at l {m} {end} {rest} h w some len = omega (arith, h, len, writing_room kind word l at m end rest w some)

pub bounds-s-end : goal.bounds-s-end
bounds-s-end c =
    let room = mode_room _ _ _ _ c.requires c.loop-rest.invariant.0 c.loop-rest-test.true c.loop-rest.invariant.1 in
    omega (arith, room)

pub overflow_add-end : goal.overflow_add-end
overflow_add-end c =
    let room = mode_room _ _ _ _ c.requires c.loop-rest.invariant.0 c.loop-rest-test.true c.loop-rest.invariant.1 in
    record { fits = omega (arith, room, c.loop-rest.invariant.1) }

pub put_field-end-requires : goal.put_field-end-requires
put_field-end-requires c =
    let room = mode_room _ _ _ _ c.requires c.loop-rest.invariant.0 c.loop-rest-test.true c.loop-rest.invariant.1 in
    let v = c.loop-rest in rw (c.lowest_mode.ensures, length-set v.s v.end 32) room

pub loop-rest-preserved : goal.loop-rest-preserved
loop-rest-preserved c =
    let room = mode_room _ _ _ _ c.requires c.loop-rest.invariant.0 c.loop-rest-test.true c.loop-rest.invariant.1 in
    let put = c.put_field-end in
    let mode = c.lowest_mode in
    let v = c.loop-rest in
    let next = writing_goes _ _ _ _ v.s v.end v.rest v.invariant.0 c.loop-rest-test.true _ _ in
    (next (omega (arith, c.requires)) (omega (arith, room)) (rw mode.ensures at put.ensures), put.auto.s ∙ length-set v.s v.end 32 ∙ v.invariant.1)

pub returns : goal.returns
returns c =
    let v = c.loop-rest in writing_ends _ _ _ _ v.s v.end v.rest v.invariant.0 c.loop-rest-test.false
