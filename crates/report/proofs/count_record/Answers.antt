-- `report::count_record` meets its contract.
use mathlib.Core.Path.{sym, ◌∙◌}
use Rattle.record.proofs.Accepted.{refused}
use Rattle.report.proofs.Counting.{not_taken, one_refused, countable, one_accepted}
use Rattle.report.proofs.count_record.Goals as goal

pub returns-then-not-is_open : goal.returns-then-not-is_open
returns-then-not-is_open c = not_taken _ _ (sym c.is_open.ensures ∙ c.if-not-is_open.true)

pub returns-in-Err : goal.returns-in-Err
returns-in-Err c =
    let opened = sym c.is_open.ensures ∙ c.if-not-is_open.false in
    one_refused _ _ opened c.told-report _ (refused 1 _ _ c.in-Err.ensures.checked)

pub count_accepted-requires : goal.count_accepted-requires
count_accepted-requires c =
    let opened = sym c.is_open.ensures ∙ c.if-not-is_open.false in
    countable _ _ _ _ _ c.in-Ok.ensures c.told-report opened

pub returns-in-Ok : goal.returns-in-Ok
returns-in-Ok c =
    let opened = sym c.is_open.ensures ∙ c.if-not-is_open.false in
    one_accepted _ _ _ _ _ c.in-Ok.ensures c.told-report opened _ c.count_accepted.ensures
