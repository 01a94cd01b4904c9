-- Numbers of any size read as far as one above 2^60. For inner functions only.
use Rattle.std.specs.Prelude.{cond, List, ℕ, ◌+◌, ◌^◌, min, Option, Some, None}
use Rattle.decimals.specs.Decimal.{read_on}
use Rattle.decimals.specs.Numbers.{is_number}

-- the number itself, or one above the ceiling where it is larger
abbrev pub up_to : ℕ → ℕ
up_to n = min n (2 ^ 60 + 1)

-- what is read of any bytes: nothing, where they are no number
abbrev pub number_in : List ℕ → Option ℕ
number_in l = cond (is_number l) (Some (up_to (read_on 0 l))) None
