-- The stretch of the creation column for one annihilation word.
use Rattle.std.specs.Prelude.{ℕ, ◌+◌, ◌*◌, ◌-◌, Bool, cond, List, eqb, ltb, take, drop}
use Rattle.modes.specs.Refusals.{unless}
use Rattle.modes.specs.declared.Term.{Term}
use Rattle.record.specs.Layout.{count_of, terms_of}
use Rattle.record.specs.Refusals.{refusal_of}
use Rattle.record.specs.Counting.{count_if}
use Rattle.record.specs.declared.Stretch.{Stretch}

-- the term has an annihilation word below a
abbrev pub ann_below : ℕ → Term → Bool
ann_below a t = ltb t.ann a

-- in a record, which ascends, the terms with the annihilation word a stand from this index on, and up to the other
abbrev pub block_first : List ℕ → ℕ → ℕ
block_first l a = count_if (ann_below a) (terms_of l)

abbrev pub block_past : List ℕ → ℕ → ℕ
block_past l a = count_if (ann_below (a + 1)) (terms_of l)

abbrev pub empty_stretch : Stretch
empty_stretch = record { start = 0; len = 0 }

-- these entries of the creation column of n terms, 8 bytes each; the empty part starts at 0
abbrev pub stretch : ℕ → ℕ → ℕ → Stretch
stretch n first past = cond (eqb first past) empty_stretch (record { start = 32 + 8 * n + 8 * first; len = 8 * (past - first) })

-- of a record that is not accepted, the empty part
abbrev pub block_of : List ℕ → ℕ → Stretch
block_of l a = unless (refusal_of 1 l) (λ _. empty_stretch) (stretch (count_of l) (block_first l a) (block_past l a))

-- the bytes of a stretch
abbrev pub bytes_in : Stretch → List ℕ → List ℕ
bytes_in s l = take s.len (drop s.start l)
