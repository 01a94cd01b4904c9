-- No two answers meet a promise of this crate.
use mathlib.Core.Path.{◌≡◌}
use mathlib.Core.List.{List}
use Prim.Native.Nat.{ℕ}
use lib.IntN.{ℤ}
use Rattle.std.specs.Prelude.{Result}
use Rattle.modes.specs.declared.Refusal.{Refusal}
use Rattle.record.specs.Operands.{Operand}
use Rattle.modes.proofs.Unique.{one}
use Rattle.mat_elem.specs.Elements.{element_of}
use Rattle.mat_elem.specs.Matrix.{projected_of}
use Rattle.mat_elem.specs.declared.Row.{Row}

pub one_element : (a : Operand) (bra ket : ℕ) (x y : Result ℤ Refusal) → x ≡ element_of a bra ket → y ≡ element_of a bra ket → x ≡ y
one_element a bra ket x y = one

pub one_matrix : (a : Operand) (basis : List ℕ) (x y : Result (List Row) Refusal) → x ≡ projected_of a basis → y ≡ projected_of a basis → x ≡ y
one_matrix a basis x y = one
