-- `record::Terms::get` meets its contract.
use mathlib.Core.Path.{ap, subst}
use mathlib.Core.List.{List}
use native.Mathlib.Omega.{arith}
use lib.ListN.{length}
use Rattle.modes.specs.declared.Term.{Term}
use Rattle.record.specs.Reading.{At}
use Rattle.record.proofs.Reading.{length_terms}
use Rattle.record.proofs.Terms.get.Goals as goal

pub read_term-requires : goal.read_term-requires
read_term-requires c =
    let inside = c.self.inside in
    (c.self.invariant, omega (arith, c.requires, ap length c.self.view_is, length_terms inside.bytes.now inside.terms))

pub returns : goal.returns
returns c = subst (λ (ts : List Term). At ts c.args.i c.read_term.result) c.self.view_is c.read_term.ensures
