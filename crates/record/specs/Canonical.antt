-- The canonical form: the terms that a record on m modes may hold. One operator has one canonical form. For inner functions only.
use Rattle.std.specs.Prelude.{ℕ, ◌^◌, ◌≤◌, ◌<◌, ◌≡◌, List, pos, length}
use Rattle.modes.specs.declared.Term.{Term}
use Rattle.modes.specs.Every.{Every}
use Rattle.record.specs.Terms.{Ascending, weight}

pub record Inside (m : ℕ) (t : Term) : Type 0 where
  pub ann : t.ann < 2 ^ m
  pub cre : t.cre < 2 ^ m

abbrev pub Nonzero : Term → Type 0
Nonzero t = t.coeff ≡ pos 0 → ⊥

pub record Canonical (m : ℕ) (ts : List Term) : Type 0 where
  pub some : 1 ≤ m
  pub most : m ≤ 64
  pub few : length ts ≤ 2048
  pub inside : Every (Inside m) ts
  pub ascending : Ascending ts
  pub nonzero : Every Nonzero ts
  pub light : weight ts ≤ 2 ^ 60
