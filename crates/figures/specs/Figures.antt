-- What the terms of a record have in common: particle conservation, the largest rank, the active modes.
use Rattle.std.specs.Prelude.{ℕ, max, Result, Bool, true, ◌&&◌, List, [], ◌∷◌, eqb}
use Rattle.std.specs.Int.Bits.{bit_or}
use Rattle.modes.specs.Terms.{creations, annihilations}
use Rattle.modes.specs.declared.Term.{Term}
use Rattle.modes.specs.declared.Refusal.{Refusal}
use Rattle.modes.specs.Refusals.{answered}
use Rattle.record.specs.Operands.{Operand}
use Rattle.figures.specs.declared.Figures.{Figures}

-- as many creations as annihilations; and so in every term
abbrev pub conserves : Term → Bool
conserves t = eqb (creations t) (annihilations t)

unfoldable pub conserving : List Term → Bool
conserving [] = true
conserving (t ∷ ts) = conserves t && conserving ts

-- the rank of a term: the larger of its creation and annihilation counts
unfoldable pub rank_of : Term → ℕ
rank_of t = max (creations t) (annihilations t)

-- the largest rank, 0 for no terms
unfoldable pub largest_rank : List Term → ℕ
largest_rank [] = 0
largest_rank (t ∷ ts) = max (rank_of t) (largest_rank ts)

-- the union of all words
unfoldable pub all_modes : List Term → ℕ
all_modes [] = 0
all_modes (t ∷ ts) = bit_or (bit_or t.cre t.ann) (all_modes ts)

-- the three together
abbrev pub figures_in : List Term → Figures
figures_in ts = record { conserving = conserving ts; rank = largest_rank ts; modes = all_modes ts }

abbrev pub figures_of : Operand → Result Figures Refusal
figures_of a = answered a.refusal (figures_in a.terms)

-- what each call answers of a record
abbrev pub conserves_of : Operand → Result Bool Refusal
conserves_of a = answered a.refusal (conserving a.terms)

abbrev pub max_n_body_of : Operand → Result ℕ Refusal
max_n_body_of a = answered a.refusal (largest_rank a.terms)

abbrev pub active_modes_of : Operand → Result ℕ Refusal
active_modes_of a = answered a.refusal (all_modes a.terms)
