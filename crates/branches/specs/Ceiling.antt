-- Branches counted as far as a ceiling. For inner functions only.
use Rattle.std.specs.Prelude.{ℕ, ◌+◌, cond, leb}

-- the most branches whose rows, 24 bytes each, take no more than 2^63 bytes
abbrev pub most : ℕ
most = 384307168202282325

-- the number itself, or the first one above the ceiling
unfoldable pub up_to : ℕ → ℕ
up_to n = cond (leb n most) n (most + 1)
