-- How the code goes through the terms of the difference. For inner functions only.
use Rattle.std.specs.Prelude.{Option, None, Some, cond, eqb, nat_abs}
use Rattle.modes.specs.declared.Term.{Term}
use Rattle.compare.specs.Comparison.{ahead}

-- the one that is named of t and what is found
abbrev pub leading : Option Term → Term → Term
leading None t = t
leading (Some u) t = cond (ahead t u) t u

-- what is found once t is gone through too: t is dropped if it is no difference
unfoldable pub with_term : Option Term → Term → Option Term
with_term found t = cond (eqb (nat_abs t.coeff) 0) found (Some (leading found t))
