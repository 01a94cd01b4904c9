-- No two answers, outputs and works meet a promise of this crate.
use mathlib.Core.Path.{◌≡◌}
use mathlib.Core.List.{List}
use Prim.Native.Nat.{ℕ}
use Rattle.std.specs.Prelude.{Result}
use Rattle.modes.specs.declared.Refusal.{Refusal}
use Rattle.modes.specs.declared.Written.{Written}
use Rattle.lent.specs.Outputs.{Gives}
use Rattle.lent.proofs.Outputs.{gives_one}
use Rattle.record.specs.Operands.{Operand}
use Rattle.multiply.specs.Answers.{Leaves}
use Rattle.multiply.proofs.Unique.{leaves_one}
use Rattle.text.specs.Import.{import_of}
use Rattle.text.specs.Export.{export_of}

pub one_import : (m work room : ℕ) (text : List ℕ) (r s : Result Written Refusal) (x y w v : List ℕ) → Leaves (import_of m work room text) r x work w
    → Leaves (import_of m work room text) s y work v → (r ≡ s) × (x ≡ y) × (w ≡ v)
one_import m work room text r s x y w v = leaves_one

pub one_export : (room : ℕ) (a : Operand) (r s : Result Written Refusal) (x y : List ℕ) → Gives (export_of room a) r x → Gives (export_of room a) s y → (r ≡ s) × (x ≡ y)
one_export room a r s x y = gives_one
