-- `shelf::put_in` meets its contract: 19, then the record's own refusals, then the record placed.
use mathlib.Core.Path.{refl, sym, ap, ◌∙◌}
use Rattle.modes.proofs.Refusals.{handed_on}
use Rattle.record.proofs.Accepted.{accepted, refused}
use Rattle.shelf.specs.Requests.{Slot, tells}
use Rattle.shelf.proofs.Refusals.{put_damaged, put_unread}
use Rattle.shelf.proofs.Answering.{half_refuses}
use Rattle.shelf.proofs.put_in.Goals as goal

pub returns-then-not-is_whole : goal.returns-then-not-is_whole
returns-then-not-is_whole c = half_refuses _ _ _ _ _ (put_damaged _ _ (sym c.is_whole.ensures ∙ c.if-not-is_whole.true)) refl refl

pub returns-in_err-check : goal.returns-in_err-check
returns-in_err-check c =
    let whole = sym c.is_whole.ensures ∙ c.if-not-is_whole.false in
    let told = put_unread _ _ whole _ (refused 1 _ _ c.in_err-check.ensures) in
    half_refuses _ _ _ _ _ told (ap (tells Slot) (handed_on _ _ c.from_residual.ensures.0 c.from_residual.ensures.1)) refl

pub place_in-requires : goal.place_in-requires
place_in-requires c =
    record {
      size = c.told-half;
      whole = sym c.is_whole.ensures ∙ c.if-not-is_whole.false;
      accepted = (accepted 1 _ _ c.in_ok-check.ensures).fine;
    }
