-- What the function of this folder owes, proved.
use Rattle.std.proofs.Common.{◌∙◌, List, sym, ap, subst}
use Rattle.std.specs.Prelude.{Vec}
use Rattle.std.specs.Global.{Global}
use Rattle.nz_machine.specs.declared.journal.Item.{Item}
use Rattle.nz_fabric.specs.schedule.Calendars.{items_in}
use Rattle.nz_fabric.specs.schedule.Posting.{days_of, HasRoomFor}
use Rattle.nz_fabric.proofs.calendars.Dating.{opened, room_more}
use Rattle.nz_fabric.proofs.schedule.calendar.open_days.Goals as goal

pub days-preserved : goal.days-preserved
days-preserved c =
    let days = c.days.days.items in
    let v = c.new.result in
    record {
      same =
          λ t. ap (λ (days : List (Vec Item Global)). items_in (days_of days) t) c.in_ok-push.ensures.items
          ∙ opened days v t c.new.ensures.items ∙ c.days.invariant.same t;
      rooms =
          λ n t h. subst (λ (days : List (Vec Item Global)). HasRoomFor n days t) (sym c.in_ok-push.ensures.items)
          (room_more n days v t (c.days.invariant.rooms n t h));
    }

pub returns-in_err-push-clause-rooms : goal.returns-in_err-push-clause-rooms
returns-in_err-push-clause-rooms c =
    λ n t h. subst (λ (days : List (Vec Item Global)). HasRoomFor n days t) (sym c.in_err-push.ensures.items) (c.days.invariant.rooms n t h)
