-- What std's `is_finite` answers, and that zero rounds to itself.
use mathlib.Core.Path.{◌≡◌, refl, sym, ◌∙◌}
use mathlib.Core.Bool.{Bool}
use Prim.Native.Nat.{ℕ, ◌<◌}
use native.Mathlib.Nat.{zero-mul, zero-lt-suc}
use lib.IntN.{pos}
use lib.Ieee.{Float, nan, inf, fin, binary64, size, span, climb, odd, units, round}
use lib.Ieee.Scale.{finite, round_same}
use Rattle.std.specs.Float.{float_is_finite}

pub zero_round : (s : Bool) (c : ℕ) → 0 < c → round binary64 s 0 c ≡ fin s 0 (pos 0)
unfolding round size span climb units odd
zero_round s c h = round_same binary64 s 0 c 0 1 h (zero-lt-suc 0) (sym (zero-mul c)) ∙ refl

pub is_finite_told : (x : Float) → float_is_finite x ≡ finite x
unfolding float_is_finite
is_finite_told nan = refl
is_finite_told (inf s) = refl
is_finite_told (fin s m e) = refl
