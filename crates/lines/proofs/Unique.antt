-- No two answers meet a promise of this crate.
use Rattle.std.specs.Prelude.{Option}
use mathlib.Core.Path.{◌≡◌}
use mathlib.Core.List.{List}
use Prim.Native.Nat.{ℕ, ◌+◌, ◌≤◌}
use lib.ListN.{length, drop}
use Rattle.modes.proofs.Unique.{one}
use Rattle.lines.specs.Reading.{front, ladder_made, ladder_read, coefficient_made, coefficient_read, line_made, line_read}
use Rattle.lines.specs.declared.ReadLadder.{ReadLadder}
use Rattle.lines.specs.declared.ReadCoefficient.{ReadCoefficient}
use Rattle.lines.specs.declared.ReadLine.{ReadLine}

module _ (l : List ℕ) where
  pub one_end : (at mark r s : ℕ) → (r ≡ at + length (front mark (drop at l))) × (r ≤ length l)
      → (s ≡ at + length (front mark (drop at l))) × (s ≤ length l) → r ≡ s
  one_end at mark r s p q = one p.0 q.0

  pub one_ladder_made : (r s : ReadLadder) → r ≡ ladder_made l → s ≡ ladder_made l → r ≡ s
  one_ladder_made r s = one

  pub one_ladder : (r s : Option ReadLadder) → r ≡ ladder_read l → s ≡ ladder_read l → r ≡ s
  one_ladder r s = one

  pub one_coefficient_made : (r s : ReadCoefficient) → r ≡ coefficient_made l → s ≡ coefficient_made l → r ≡ s
  one_coefficient_made r s = one

  pub one_coefficient : (r s : Option ReadCoefficient) → r ≡ coefficient_read l → s ≡ coefficient_read l → r ≡ s
  one_coefficient r s = one

  pub one_line_made : (m : ℕ) (r s : ReadLine) → r ≡ line_made m l → s ≡ line_made m l → r ≡ s
  one_line_made m r s = one

  pub one_line : (m : ℕ) (r s : Option ReadLine) → r ≡ line_read m l → s ≡ line_read m l → r ≡ s
  one_line m r s = one
