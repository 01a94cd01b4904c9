-- `record::good_header` meets its contract.
use mathlib.Core.Path.{ap₂, sym, ap, ◌∙◌}
use mathlib.Core.Bool.{not}
use Prim.Native.Nat.{ℕ}
use native.Mathlib.Omega.{arith}
use Rattle.modes.specs.Spaces.{space_of, is_made}
use Rattle.record.specs.Numbers.{numbers, same_numbers}
use Rattle.record.specs.Layout.{fields}
use Rattle.record.proofs.Header.{no_space, too_many, header_decides}
use Rattle.record.proofs.good_header.Goals as goal

pub returns-then-is_none : goal.returns-then-is_none
returns-then-is_none c =
    no_space _ (ap (λ (m : ℕ). is_made (space_of m)) (sym c.half-m.ensures.0) ∙ ap is_made (sym c.from_count.ensures) ∙ c.is_none.ensures ∙ ap not c.if-is_none.true)

pub returns-then-n-gt-MOST_TERMS : goal.returns-then-n-gt-MOST_TERMS
returns-then-n-gt-MOST_TERMS c = too_many _ (omega arith)

pub returns : goal.returns
returns c =
    let s = c.args.s.now in
    header_decides _ _
    (ap (λ (m : ℕ). is_made (space_of m)) (sym c.half-m.ensures.0) ∙ ap is_made (sym c.from_count.ensures) ∙ c.is_none.ensures ∙ ap not c.if-is_none.false)
    (omega arith)
    (c.header_is.ensures ∙ ap₂ (λ (m n : ℕ). same_numbers (numbers 4 s 0 8) (fields m n)) c.half-m.ensures.0 c.half-n.ensures.0)
