-- `record::count_before` meets its contract. The invariant: the first `low` terms stand before t, and none from the `high`-th on does.
use borrow.Author.Rules.{rules}
use mathlib.Core.Path.{sym, ◌∙◌}
use native.Mathlib.Omega.{arith}
use lib.ListN.{drop_of_length-le}
use Rattle.record.proofs.Halving.{earlier_downward, halving_starts, halving_rises, halving_falls, halving_ends}
use Rattle.record.proofs.Terms.count_before.Goals as goal

pub loop-low-init : goal.loop-low-init
loop-low-init c = (search rules, search rules, halving_starts _ _ _ (drop_of_length-le c.args.self.now {i = c.len-high.result} (omega arith)))

pub get-u-requires : goal.get-u-requires
get-u-requires c = omega arith

pub loop-low-preserved-then-is_before : goal.loop-low-preserved-then-is_before
loop-low-preserved-then-is_before c = (
  omega arith,
  search rules,
  halving_rises _ (earlier_downward c.args.t) _
      c.requires _ _ _ _ c.get-u.ensures c.loop-low.invariant.2
      (sym c.is_before.ensures ∙ c.if-is_before.true),
)

pub loop-low-preserved : goal.loop-low-preserved
loop-low-preserved c = (
  omega arith,
  omega arith,
  halving_falls _ (earlier_downward c.args.t) _
      c.requires _ _ _ _ c.get-u.ensures c.loop-low.invariant.2
      (sym c.is_before.ensures ∙ c.if-is_before.false),
)

pub returns : goal.returns
returns c = halving_ends _ _ _ _ (omega arith) c.loop-low.invariant.2
