-- What is read of a line's fields: the coefficient with its sign, and the line that the fields make.
use mathlib.Core.Path.{◌≡◌, ap, ap₂, ◌∙◌}
use mathlib.Core.List.{List}
use Prim.Native.Nat.{ℕ, ◌+◌, ◌^◌, ◌≤◌, ◌<◌}
use native.Mathlib.Omega.{arith}
use lib.IntN.{ℤ, pos, nat_abs}
use lib.ListN.{length, take, drop, length-map}
use mir.Syntax.{w64}
use mir.Val.{SFits, to_z, of_z}
use mir.Facts.{to_z-of_z, to_z_pos}
use Rattle.modes.specs.declared.Term.{Term}
use Rattle.products.specs.Operators.{signed}
use Rattle.products.proofs.Signs.{abs_signed}
use Rattle.decimals.specs.Decimal.{read_on}
use Rattle.lines.specs.Grammar.{space, ladder_of, is_minus, magnitude_of, coefficient_of, line_from, line_of}
use Rattle.lines.specs.Reading.{front, rest, coefficient_made}
use Rattle.lines.specs.declared.ReadCoefficient.{ReadCoefficient}
use Rattle.lines.proofs.Pieces.{pieces_first}
use Rattle.expand.specs.Rows.{rows_after, plain, rows_of}
use Rattle.expand.specs.Writing.{ladders_from, Writable, LineWritable, Wrote}

-- ---- a coefficient

module _ (l : List ℕ) (light : nat_abs (coefficient_of l) ≤ 2 ^ 60) (r : ReadCoefficient) (e : r ≡ coefficient_made l) where
  size : nat_abs (coefficient_of l) ≡ read_on 0 (magnitude_of l)
  unfolding coefficient_of
  size = abs_signed (is_minus l) (pos (read_on 0 (magnitude_of l)))

  -- it does not reach the ceiling
  same_magnitude : r.magnitude ≡ read_on 0 (magnitude_of l)
  same_magnitude = omega (arith, size, ap (λ (x : ReadCoefficient). x.magnitude) e)

  small_magnitude : r.magnitude < 2 ^ 63
  small_magnitude = omega (arith, size, same_magnitude)

  signed_magnitude : to_z w64 r.magnitude ≡ pos (read_on 0 (magnitude_of l))
  signed_magnitude = to_z_pos w64 small_magnitude ∙ ap pos same_magnitude

  pub start_is : (z : ℤ) → SFits w64 z → z ≡ signed r.sign.0 (to_z w64 r.magnitude) → plain (to_z w64 (of_z w64 z)) ≡ plain (coefficient_of l)
  unfolding coefficient_of
  start_is z fits told =
      ap plain (to_z-of_z fits ∙ told ∙ ap₂ signed (ap (λ (x : ReadCoefficient). x.sign.0) e) signed_magnitude)

-- ---- a whole line

module _ {line : List ℕ} {work used : ℕ} (w : LineWritable line work used) {end : ℕ} (far : end ≡ 0 + length (front space line)) where
  line_is : line_of line ≡ record { coeff = coefficient_of (take end line); ladders = ladders_from line end }
  unfolding line_from
  line_is = ap line_from (pieces_first space line end far)

  pub coefficient_light : nat_abs (coefficient_of (take end line)) ≤ 2 ^ 60
  coefficient_light = rw line_is at w.light

  module _ {t : Term} (start : t ≡ plain (coefficient_of (take end line))) where
    pub line_writable : end ≤ length line → Writable line end t work used
    line_writable inside = record {
      here = inside;
      inside = rw line_is at w.inside;
      room = rw (line_is, length-map (rest space (drop end line)) ladder_of) at w.room;
      small = rw start (omega (arith, coefficient_light));
    }

    pub line_wrote : (l m : List ℕ) (next : ℕ) → Wrote l used (rows_after t (ladders_from line end)) next m → Wrote l used (rows_of (line_of line)) next m
    line_wrote l m next v = rw (line_is, ← start) v
