use Rattle.std.proofs.Common.{◌∙◌, ap}
use Rattle.pth_cond.specs.Seats.{event_seats, notified}
use Rattle.pth_cond.proofs.EventSeats.{events_notified, total_kept}
use Rattle.pth_cond.proofs.SeatingTables.{seats_changed}
use Rattle.pth_cond.proofs.conditions.notify_at.Goals as goal

pub returns-in-Some-clause-changes : goal.returns-in-Some-clause-changes
returns-in-Some-clause-changes c = seats_changed c.args.conditions.now c.args.place c.requires c.index-conditions-place.result (notified c.args.all) c.in-Some.seats c.notify.new.self c.in-Some.is c.notify.ensures

pub returns-in-Some-clause-counted : goal.returns-in-Some-clause-counted
returns-in-Some-clause-counted c = total_kept c.args.conditions.now c.args.place c.requires c.index-conditions-place.result c.in-Some.seats c.notify.new.self c.in-Some.is (ap event_seats c.notify.ensures ∙ events_notified c.args.all c.in-Some.seats)
