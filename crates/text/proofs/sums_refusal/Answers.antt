-- `text::sums_refusal` meets its contract.
use Rattle.text.proofs.Refusing.{too_heavy, too_many, both_fine}
use Rattle.text.proofs.sums_refusal.Goals as goal

pub returns-then-s-gt-CEILING : goal.returns-then-s-gt-CEILING
returns-then-s-gt-CEILING c = too_heavy c.args.work c.args.s.burden c.args.s.spread c.if-s-gt-CEILING.true

pub returns-then-work-s : goal.returns-then-work-s
returns-then-work-s c =
    too_many c.args.work c.args.s.burden c.args.s.spread c.if-s-gt-CEILING.false c.if-work-s.true

pub returns : goal.returns
returns c =
    both_fine c.args.work c.args.s.burden c.args.s.spread c.if-s-gt-CEILING.false c.if-work-s.false
