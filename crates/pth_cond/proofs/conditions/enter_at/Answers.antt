use Rattle.std.proofs.Common.{ℕ, ◌+◌, ◌∙◌, Some, ap, subst, sym, arith}
use Rattle.pth_base.proofs.Tables.{put_here}
use Rattle.pth_cond.specs.Conditions.{ConditionTable, HasFewEvents, conditions_of}
use Rattle.pth_cond.specs.Seats.{event_seats, with_seat}
use Rattle.pth_cond.proofs.EventSeats.{events_entered, events_within, total_entered}
use Rattle.pth_cond.proofs.SeatingTables.{condition_set, seats_changed}
use Rattle.pth_cond.proofs.conditions.enter_at.Goals as goal

pub returns-in_ok-enter-in-Some-clause-changes : goal.returns-in_ok-enter-in-Some-clause-changes
returns-in_ok-enter-in-Some-clause-changes c = seats_changed c.args.conditions.now c.args.place c.requires.low c.index-conditions-place.result (with_seat c.args.seat) c.in-Some.seats c.enter.new.self c.in-Some.is c.in_ok-enter-in-Some.ensures.changes

pub returns-in_ok-enter-in-Some-clause-counted : goal.returns-in_ok-enter-in-Some-clause-counted
returns-in_ok-enter-in-Some-clause-counted c =
    let entered = ap event_seats c.in_ok-enter-in-Some.ensures.changes ∙ events_entered c.args.seat c.in-Some.seats in
    total_entered c.args.conditions.now c.args.place c.requires.low c.index-conditions-place.result c.in-Some.seats c.enter.new.self _ c.args.event_seats.now _ c.in-Some.is entered c.requires.counted (ap (λ (n : ℕ). c.args.event_seats.now + n) c.events_come.ensures)

pub returns-in_ok-enter-in-Some-clause-few : goal.returns-in_ok-enter-in-Some-clause-few
returns-in_ok-enter-in-Some-clause-few c =
    let at = ap (λ (f : ConditionTable). f c.args.place) (condition_set c.args.conditions.now c.args.place c.requires.low (Some c.enter.new.self)) ∙ put_here (conditions_of c.args.conditions.now) c.args.place (Some c.enter.new.self) in
    subst HasFewEvents (sym at) (omega (arith, events_within c.enter.new.self, c.in_ok-enter-in-Some.ensures.few))
