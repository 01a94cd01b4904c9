-- No two answers meet a promise of this crate.
use mathlib.Core.Path.{◌≡◌, sym, ◌∙◌}
use mathlib.Core.List.{List}
use Prim.Native.Nat.{ℕ}
use Rattle.record.specs.Operands.{read_as}
use Rattle.modes.specs.declared.Written.{Written}
use Rattle.lent.specs.Outputs.{Gives}
use Rattle.lent.proofs.Outputs.{gives_one}
use mathlib.Core.Bool.{Bool}
use Rattle.std.specs.Prelude.{Result}
use Rattle.modes.specs.declared.Refusal.{Refusal}
use Rattle.adjoint.specs.Adjoint.{adjointed}
use Rattle.adjoint.specs.Hermitian.{hermitian_of}

pub one_adjoint : (room : ℕ) (l : List ℕ) (r r' : Result Written Refusal) (after after' : List ℕ) → Gives (adjointed room (read_as 1 l)) r after
    → Gives (adjointed room (read_as 1 l)) r' after'
    → (r ≡ r') × (after ≡ after')
one_adjoint room l r r' after after' = gives_one

pub one_hermitian : (l : List ℕ) (r r' : Result Bool Refusal) → r ≡ hermitian_of l → r' ≡ hermitian_of l → r ≡ r'
one_hermitian l r r' p q = p ∙ sym q
