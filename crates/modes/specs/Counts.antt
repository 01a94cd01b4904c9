-- Counts of modes, at any width k, and their parities.
use Rattle.std.specs.Prelude.{Bool, false, cond, ◌&&◌, ℕ, zero, suc, ◌+◌, ◌-◌, ◌*◌, ◌/◌, ◌%◌, eqb}
use Rattle.modes.specs.Bools.{◌⊕◌}
use Rattle.modes.specs.Words.{Modes}

-- is the number odd
abbrev pub parity : ℕ → Bool
parity n = eqb (n % 2) 1

-- how many modes of u stand below k
unfoldable pub count : ℕ → Modes → ℕ
count zero u = 0
count (suc p) u = count p u + cond (u p) 1 0

-- the exchange count: the modes of u below each mode of v, summed over the modes of v below k
unfoldable pub exchanges : ℕ → Modes → Modes → ℕ
exchanges zero u v = 0
exchanges (suc p) u v = exchanges p u v + cond (v p) (count p u) 0

-- the number of pairs of n modes
unfoldable pub pairs : ℕ → ℕ
pairs n = n * (n - 1) / 2

-- is `count` odd: one flip for each mode of u below k
unfoldable pub odd : ℕ → Modes → Bool
odd zero u = false
odd (suc p) u = odd p u ⊕ u p

-- is `exchanges` odd
unfoldable pub odd_exchanges : ℕ → Modes → Modes → Bool
odd_exchanges zero u v = false
odd_exchanges (suc p) u v = let o = odd p u in odd_exchanges p u v ⊕ (v p && o)
