-- Rows gathered at the front of the work. For inner functions only.
use Rattle.std.specs.Prelude.{◌≡◌, List, [], ◌∷◌, ◌++◌, ℕ, ◌+◌, ◌*◌, ◌≤◌, ◌<◌, pos, ◌+ℤ◌, length}
use Rattle.modes.specs.declared.Term.{Term}
use Rattle.lent.specs.Rows.{row_at, rows_at}
use Rattle.record.specs.Coefficients.{coeff_of}
use Rattle.collect.specs.KeyWeights.{key_weight}
use Rattle.pairs.specs.declared.Fill.{Fill}

-- what is used is held, and what is held fits
pub record Room (l : List ℕ) (s : Fill) : Type 0 where
  pub few : s.used ≤ s.held
  pub fits : s.held ≤ length l

-- the rows us stand for the rows ts, of which some may have cancelled: the same coefficients, of no more weight
pub record Stands (us ts : List Term) : Type 0 where
  pub coeff : (cre ann : ℕ) → coeff_of cre ann us ≡ coeff_of cre ann ts
  pub light : (cre ann : ℕ) → key_weight cre ann us ≤ key_weight cre ann ts

-- the rows ts would take the bytes that are held, and the rows in the bytes that are used stand for them
pub record Filled (ts : List Term) (l : List ℕ) (s : Fill) : Type 0 where
  pub room : Room l s
  pub held : s.held ≡ 24 * length ts
  pub count : ℕ
  pub used : s.used ≡ 24 * count
  pub rows : Stands (rows_at l 0 count) ts

-- or the rows ts are too many for the work
pub data Grown (ts : List Term) (l : List ℕ) (s : Fill) : Type 0 where
  filled : Filled ts l s → Grown ts l s
  over : length l < 24 * length ts → length l < s.held → Grown ts l s

-- a step from the work l to the work m adds rows to whatever stood there
pub record Adds (rows : List Term) (l : List ℕ) (s : Fill) (m : List ℕ) (r : Fill) : Type 0 where
  pub room : r.held ≤ length m → Room m r
  pub grows : (ts : List Term) → Filled ts l s → Grown (ts ++ rows) m r

-- the rows stand after those that were used, or are too many
pub data Appended (rows : List Term) (l : List ℕ) (s : Fill) (m : List ℕ) (r : Fill) : Type 0 where
  fits : r.held ≡ s.held + 24 * length rows → r.used ≡ s.used + 24 * length rows → r.held ≤ length l
      → ((count : ℕ) → s.used ≡ 24 * count → rows_at m 0 (count + length rows) ≡ rows_at l 0 count ++ rows) → Appended rows l s m r
  over : length l < s.held + 24 * length rows → length l < r.held → Appended rows l s m r

-- terms of the same words whose coefficients cancel
pub record Opposite (t u : Term) : Type 0 where
  pub ann : t.ann ≡ u.ann
  pub cre : t.cre ≡ u.cre
  pub coeff : t.coeff +ℤ u.coeff ≡ pos 0

-- the row x in hand cancelled the last row, or was put after it
pub data Settled (x : Term) (l : List ℕ) (s : Fill) (m : List ℕ) (r : Fill) : Type 0 where
  cancelled : s.used ≡ r.used + 24 → r.held ≡ s.held → m ≡ l → Opposite x (row_at l r.used) → Settled x l s m r
  kept : r.used ≡ s.used + 24 → r.held ≡ s.held
      → ((count : ℕ) → s.used ≡ 24 * count → rows_at m 0 (count + 1) ≡ rows_at l 0 count ++ (x ∷ [])) → Settled x l s m r
