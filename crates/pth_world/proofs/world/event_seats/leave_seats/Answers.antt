use Rattle.std.proofs.Common.{sym}
use Rattle.pth_cond.specs.Conditions.{conditions_of}
use Rattle.pth_numbered.specs.Operands.{number}
use Rattle.pth_ring.specs.Arena.{events_of}
use Rattle.pth_world.proofs.EventSeats.{none_left}
use Rattle.pth_world.proofs.world.event_seats.leave_seats.Goals as goal

pub returns-then-not-has_event_seats : goal.returns-then-not-has_event_seats
returns-then-not-has_event_seats c =
    let x = events_of c.args.rings.now in
    sym (none_left c.args.hands_on x (x.rings (number c.args.e)) (conditions_of c.args.conditions.now) (c.has_event_seats.ensures.none c.if-not-has_event_seats.true))
