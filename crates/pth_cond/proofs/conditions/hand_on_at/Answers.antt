use Rattle.std.proofs.Common.{◌≡◌, ◌+◌, ◌∙◌, sym}
use Rattle.pth_cond.specs.Seats.{event_seats, handed_on}
use Rattle.pth_cond.proofs.EventSeats.{events_handed_on, some_left, total_left, total_same}
use Rattle.pth_cond.proofs.SeatingTables.{seats_changed, seats_none}
use Rattle.pth_cond.proofs.conditions.hand_on_at.Goals as goal

pub overflow_sub-event_seats : goal.overflow_sub-event_seats
overflow_sub-event_seats c =
    let left : event_seats c.hand_on-mark.new.self + c.events_gone.result ≡ event_seats c.in-Some.seats = rw (c.hand_on-mark.ensures.changes, c.events_gone.ensures, c.hand_on-mark.ensures.mark) (events_handed_on c.args.seat c.in-Some.seats) in
    some_left c.args.conditions.now c.args.place c.requires.low c.index-conditions-place.result c.in-Some.seats c.hand_on-mark.new.self c.events_gone.result c.args.event_seats.now c.in-Some.is left c.requires.counted

pub returns-in-Some-clause-changes : goal.returns-in-Some-clause-changes
returns-in-Some-clause-changes c = seats_changed c.args.conditions.now c.args.place c.requires.low c.index-conditions-place.result (handed_on c.args.seat) c.in-Some.seats c.hand_on-mark.new.self c.in-Some.is c.hand_on-mark.ensures.changes

pub returns-in-Some-clause-counted : goal.returns-in-Some-clause-counted
returns-in-Some-clause-counted c =
    let left : event_seats c.hand_on-mark.new.self + c.events_gone.result ≡ event_seats c.in-Some.seats = rw (c.hand_on-mark.ensures.changes, c.events_gone.ensures, c.hand_on-mark.ensures.mark) (events_handed_on c.args.seat c.in-Some.seats) in
    total_left c.args.conditions.now c.args.place c.requires.low c.index-conditions-place.result c.in-Some.seats c.hand_on-mark.new.self c.events_gone.result c.args.event_seats.now c.in-Some.is left c.requires.counted

pub returns-in_default-clause-changes : goal.returns-in_default-clause-changes
returns-in_default-clause-changes c = seats_none c.args.conditions.now c.args.place c.requires.low c.index-conditions-place.result (handed_on c.args.seat) c.in_default.is

pub returns-in_default-clause-counted : goal.returns-in_default-clause-counted
returns-in_default-clause-counted c = c.requires.counted ∙ sym (total_same c.args.conditions.now c.args.place c.requires.low c.index-conditions-place.result)
