-- No two outputs or lengths meet a promise of this crate.
use mathlib.Core.Path.{◌≡◌}
use mathlib.Core.List.{List}
use Prim.Native.Nat.{ℕ}
use Rattle.modes.specs.declared.Term.{Term}
use Rattle.decimals.specs.Stores.{Stored}
use Rattle.decimals.proofs.Unique.{one_store}
use Rattle.term_lines.specs.Written.{term_text}

pub one_line : (l : List ℕ) (t : Term) (m k : List ℕ) (r s : ℕ) → Stored l 0 (term_text t) m r → Stored l 0 (term_text t) k s → (m ≡ k) × (r ≡ s)
one_line l t = one_store l 0 (term_text t)
