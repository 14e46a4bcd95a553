use Rattle.std.proofs.Common.{◌≢◌, length, if◌then◌else◌}
use Rattle.pth_cond.specs.Conditions.{conditions_of, seat_handed_on, seat_left}
use Rattle.pth_numbered.specs.Numbered.{number_at}
use Rattle.pth_ring.specs.Arena.{events_of}
use Rattle.pth_ring.specs.Ring.{from}
use Rattle.pth_world.proofs.EventSeats.{ChangedUpTo}
use Rattle.pth_world.proofs.world.event_seats.leave_round.Given as goal

abbrev pub invariant-round : goal.invariant-round
invariant-round l = record {
  used : number_at l.fn.rings l.at.0 ≢ 0;
  so_far : ChangedUpTo (if l.hands_on then seat_handed_on else seat_left) (events_of l.fn.rings) (number_at l.fn.rings l.first.0) (conditions_of l.fn.conditions) (number_at l.fn.rings l.at.0) (conditions_of l.conditions);
}

abbrev pub decreases-round : goal.decreases-round
decreases-round l = length (from (number_at l.fn.rings l.at.0) ((events_of l.fn.rings).rings (number_at l.fn.rings l.first.0)))
