-- How many terms something holds of, and which stand before a term.
use Rattle.std.specs.Prelude.{ℕ, ◌+◌, Bool, cond, List, [], ◌∷◌}
use Rattle.modes.specs.declared.Term.{Term}
use Rattle.record.specs.Terms.{before}

-- how many of the terms p holds of
unfoldable pub count_if : (Term → Bool) → List Term → ℕ
count_if p [] = 0
count_if p (t ∷ ts) = cond (p t) 1 0 + count_if p ts

-- u stands before t
abbrev pub earlier : Term → Term → Bool
earlier t u = before u t
