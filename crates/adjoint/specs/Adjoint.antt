-- The adjoint of a term, of a list of terms, and of a record.
use Rattle.std.specs.Prelude.{Bool, List, map, ℕ, ◌+◌, ◌^◌, ◌<◌, nat_abs, length}
use Rattle.record.specs.Operands.{Operand}
use Rattle.modes.specs.declared.Term.{Term}
use Rattle.modes.specs.Counts.{parity, pairs}
use Rattle.lent.specs.Outputs.{Output}
use Rattle.products.specs.Operators.{signed}
use Rattle.record.specs.Layout.{encode, modes_of, terms_of}
use Rattle.modes.specs.Refusals.{or_else}
use Rattle.modes.specs.Terms.{creations, annihilations}
use Rattle.record.specs.Outputs.{room_refusal, record_output}
use Rattle.normal.specs.Normal.{normal}

-- pairs(cre) + pairs(ann) is odd
unfoldable pub odd_pairs : Term → Bool
odd_pairs t = parity (pairs (creations t) + pairs (annihilations t))

-- the words swapped, and the coefficient multiplied by -1 if the pairs are odd in number
unfoldable pub adjoint_term : Term → Term
adjoint_term t = record { cre = t.ann; ann = t.cre; coeff = signed (odd_pairs t) t.coeff }

-- a coefficient that can be negated
abbrev pub Negatable : Term → Type 0
Negatable t = nat_abs t.coeff < 2 ^ 63

-- the adjoint of each term, in normal form
abbrev pub adjoint_terms : List Term → List Term
adjoint_terms ts = normal (map adjoint_term ts)

-- the adjoint's record
abbrev pub adjoint_bytes : List ℕ → List ℕ
adjoint_bytes l = encode (modes_of l) (adjoint_terms (terms_of l))

-- what `adjoint` answers for an output of `room` bytes, and the whole output at its end: the record's refusals, then 11, then the adjoint's record
abbrev pub adjointed : ℕ → Operand → Output
adjointed room a =
    let ts = adjoint_terms a.terms in record_output room 0 (or_else a.refusal (room_refusal room (length ts))) a.modes ts
