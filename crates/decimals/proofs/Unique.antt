-- No two answers, outputs or ends meet a promise of this crate.
use mathlib.Core.Path.{◌≡◌, sym, ◌∙◌}
use mathlib.Core.List.{List}
use Prim.Native.Nat.{ℕ, ◌+◌, ◌^◌, ◌≤◌}
use Rattle.modes.proofs.Unique.{one}
use Rattle.decimals.specs.Decimal.{read_on}
use Rattle.decimals.specs.Ceiling.{up_to, number_in}
use Rattle.decimals.specs.Stores.{Stored}
use Rattle.std.specs.Prelude.{Option}

-- of a text stored, as `put_decimal` and `put_field` promise it
pub one_store : (l : List ℕ) (at : ℕ) (text m k : List ℕ) (r s : ℕ) → Stored l at text m r → Stored l at text k s → (m ≡ k) × (r ≡ s)
one_store l at text m k r s g h = (g.bytes ∙ sym h.bytes, g.ends ∙ sym h.ends)

pub one_ceiling : (n r s : ℕ) → (r ≡ up_to n) × (r ≤ 2 ^ 60 + 1) → (s ≡ up_to n) × (s ≤ 2 ^ 60 + 1) → r ≡ s
one_ceiling n r s p q = one p.0 q.0

pub one_value : (l : List ℕ) (r s : ℕ) → r ≡ up_to (read_on 0 l) → s ≡ up_to (read_on 0 l) → r ≡ s
one_value l r s = one

pub one_number : (l : List ℕ) (r s : Option ℕ) → r ≡ number_in l → s ≡ number_in l → r ≡ s
one_number l r s = one
