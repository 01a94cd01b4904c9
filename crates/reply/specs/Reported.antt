-- What a reply tells, for theorems: a refusal, or the commutator by its elements.
use Rattle.std.specs.Prelude.{◌≡◌, List, ℕ, neg_ℤ, ◌+ℤ◌}
use Rattle.modes.specs.declared.Refusal.{Refusal}
use Rattle.modes.specs.Answers.{none}
use Rattle.products.specs.Operators.{element}
use Rattle.record.specs.Layout.{modes_of, terms_of}
use Rattle.record.specs.Refusals.{refusal_of}
use Rattle.pairs.specs.Products.{in_succession}
use Rattle.reply.specs.Lines.{refused_line}
use Rattle.reply.specs.Replies.{first_of, second_of}

-- a record that is accepted, with the element of a b - b a at every bra and ket, ladder by ladder
pub record Commutator (a b text : List ℕ) : Type 0 where
  pub accepted : (o : ℕ) → refusal_of o text ≡ none
  pub modes : modes_of text ≡ modes_of a
  pub elements : (bra ket : ℕ) → element bra ket (terms_of text) ≡ in_succession bra ket (terms_of a) (terms_of b) +ℤ neg_ℤ (in_succession bra ket (terms_of b) (terms_of a))

pub data Reported (input text : List ℕ) : Type 0 where
  line : (f : Refusal) → text ≡ refused_line f → Reported input text
  result : Commutator (first_of input) (second_of input) text → Reported input text
