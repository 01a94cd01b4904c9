-- `record::header_is` meets its contract, number by number.
use mathlib.Core.Bool.{and-true}
use mathlib.Core.Path.{sym, ◌∙◌}
use borrow.Author.Tests.{eq-eqb}
use Rattle.record.specs.Numbers.{numbers, same_numbers}
use Rattle.record.proofs.Numbers.{differ_at}
use Rattle.record.proofs.header_is.Goals as goal

pub returns-then-half-ne1 : goal.returns-then-half-ne1
unfolding numbers
returns-then-half-ne1 c = differ_at 0 _ _ (λ e. c.if-half-ne1.true (c.half.ensures.0 ∙ e))

pub returns-then-half-m : goal.returns-then-half-m
unfolding numbers
returns-then-half-m c = differ_at 1 _ _ (λ e. c.if-half-m.true (c.half-2.ensures.0 ∙ e))

pub returns-then-half-n : goal.returns-then-half-n
unfolding numbers
returns-then-half-n c = differ_at 2 _ _ (λ e. c.if-half-n.true (c.half-3.ensures.0 ∙ e))

pub returns-then-half-ne32 : goal.returns-then-half-ne32
unfolding numbers
returns-then-half-ne32 c = differ_at 3 _ _ (λ e. c.if-half-ne32.true (c.half-4.ensures.0 ∙ e))

pub returns-then-half-n-2 : goal.returns-then-half-n-2
unfolding numbers
returns-then-half-n-2 c = differ_at 4 _ _ (λ e. c.if-half-n-2.true (c.half-5.ensures.0 ∙ e))

pub returns-then-half-n-3 : goal.returns-then-half-n-3
unfolding numbers
returns-then-half-n-3 c = differ_at 5 _ _ (λ e. c.if-half-n-3.true (c.half-6.ensures.0 ∙ e))

pub returns-then-half-length_of : goal.returns-then-half-length_of
unfolding numbers
returns-then-half-length_of c = differ_at 6 _ _ (λ e. c.if-half-length_of.true (c.half-7.ensures.0 ∙ e ∙ sym c.length_of.ensures))

pub returns : goal.returns
unfolding numbers same_numbers
returns c =
    rw (
      ← c.half-8.ensures.0,
      eq-eqb _ _ (sym c.half.ensures.0 ∙ c.if-half-ne1.false),
      eq-eqb _ _ (sym c.half-2.ensures.0 ∙ c.if-half-m.false),
      eq-eqb _ _ (sym c.half-3.ensures.0 ∙ c.if-half-n.false),
      eq-eqb _ _ (sym c.half-4.ensures.0 ∙ c.if-half-ne32.false),
      eq-eqb _ _ (sym c.half-5.ensures.0 ∙ c.if-half-n-2.false),
      eq-eqb _ _ (sym c.half-6.ensures.0 ∙ c.if-half-n-3.false),
      eq-eqb _ _ (sym c.half-7.ensures.0 ∙ c.if-half-length_of.false ∙ c.length_of.ensures),
    ) (sym (and-true _))
