-- How many modes a term creates, and how many it annihilates.
use Rattle.std.specs.Prelude.{ℕ}
use Rattle.modes.specs.Words.{bit}
use Rattle.modes.specs.Counts.{count}
use Rattle.modes.specs.declared.Term.{Term}

abbrev pub creations : Term → ℕ
creations t = count 64 (bit t.cre)

abbrev pub annihilations : Term → ℕ
annihilations t = count 64 (bit t.ann)
