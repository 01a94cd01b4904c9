-- What an answer tells: its values as a list of floats, or its refusal.
use Rattle.std.specs.Prelude.{List, [], ◌∷◌, Float, Result, Ok, Err}
use Rattle.modes.specs.declared.Refusal.{Refusal}
use Rattle.float_elem.specs.declared.Complex64.{Complex64}

abbrev pub Told : Type 0
Told = Result (List Float) Refusal

-- the values of what is answered, or the refusal itself
abbrev pub told_by : {A : Type 0} → (A → List Float) → Result A Refusal → Told
told_by values (Ok x) = Ok (values x)
told_by values (Err r) = Err r

-- a real has one value, and a complex its re and its im
abbrev pub real_values : Float → List Float
real_values x = x ∷ []

abbrev pub complex_values : Complex64 → List Float
complex_values z = z.re ∷ z.im ∷ []

-- the values that are told; a refusal has none
abbrev pub values_in : Told → List Float
values_in (Ok xs) = xs
values_in (Err r) = []
