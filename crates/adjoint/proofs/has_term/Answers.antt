-- `adjoint::has_term` meets its contract.
use native.Mathlib.Omega.{arith}
use Rattle.adjoint.proofs.Among.{search_past, search_at, same_words}
use Rattle.adjoint.proofs.has_term.Goals as goal

pub returns-then-len-i : goal.returns-then-len-i
returns-then-len-i c = search_past c.args.t _ _ c.requires c.count_before-i.ensures (omega arith)

pub returns : goal.returns
returns c =
    search_at c.args.t _ _ _ c.count_before-i.result _
    c.requires c.count_before-i.ensures c.get-u.ensures (same_words _ _ _ c.eq.ensures)
