-- What `apply_op_ket_u64` answers: the word and the sign of the phase rule's outcome, or, where that is Zero, what blocked the term.
use Rattle.std.specs.Prelude.{◌≡◌, true, false, not, cond, ◌&&◌, ℕ, ◌<◌, ltb}
use Rattle.modes.specs.Words.{Modes, bit, lowest_mode}
use Rattle.products.specs.PhaseRule.{Outcome, gone, went, term}
use Rattle.products.specs.declared.Blocked.{Blocked}
use Rattle.products.specs.declared.Blocked.TheVariants.{Missing, Occupied}
use Rattle.products.specs.declared.ApplyResult.{ApplyResult}
use Rattle.products.specs.declared.ApplyResult.TheVariants.{Applied, Zero}

-- an annihilated mode that is missing from the ket
abbrev pub is_missing : ℕ → ℕ → Modes
is_missing ann ket p = bit ann p && not (bit ket p)

-- a created mode that is still occupied once the annihilated ones are removed
abbrev pub is_occupied : ℕ → ℕ → ℕ → Modes
is_occupied cre ann ket p = bit cre p && (bit ket p && not (bit ann p))

-- what blocks a term: the lowest annihilated mode missing from the ket; if none is missing, the lowest created mode still occupied
unfoldable pub blocked_by : ℕ → ℕ → ℕ → Blocked
blocked_by cre ann ket = let p = lowest_mode 64 (is_missing ann ket) in cond (ltb p 64) (Missing p) (Occupied (lowest_mode 64 (is_occupied cre ann ket)))

-- each case of ApplyResult, of a term that b blocks where the outcome is Zero
abbrev pub apply_result_of : Blocked → Outcome → ApplyResult
apply_result_of b gone = Zero b
apply_result_of b (went w s) = Applied w (record { 0 = s })

-- the term {cre|ann} on a ket, which starts with the sign plus
abbrev pub applied : ℕ → ℕ → ℕ → ApplyResult
applied cre ann ket = apply_result_of (blocked_by cre ann ket) (term cre ann (went ket false))

-- the ket contains every annihilated mode and, with those removed, has no created mode
pub record Ready (cre ann ket : ℕ) : Type 0 where
  pub held : (p : ℕ) → bit ann p ≡ true → bit ket p ≡ true
  pub free : (p : ℕ) → bit cre p ≡ true → bit ket p && not (bit ann p) ≡ false

-- p is annihilated and not in the ket, and every lower annihilated mode is in the ket
pub record FirstMissing (ann ket p : ℕ) : Type 0 where
  pub annihilated : bit ann p ≡ true
  pub absent : bit ket p ≡ false
  pub lower : (q : ℕ) → q < p → bit ann q ≡ true → bit ket q ≡ true

-- every annihilated mode is in the ket; p is created, in the ket and not annihilated, and no lower created mode is so
pub record FirstOccupied (cre ann ket p : ℕ) : Type 0 where
  pub held : (q : ℕ) → bit ann q ≡ true → bit ket q ≡ true
  pub created : bit cre p ≡ true
  pub present : bit ket p ≡ true
  pub kept : bit ann p ≡ false
  pub lower : (q : ℕ) → q < p → bit cre q ≡ true → bit ket q && not (bit ann q) ≡ false
