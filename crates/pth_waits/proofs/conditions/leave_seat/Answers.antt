use Rattle.std.proofs.Common.{to_z-of_z}
use Rattle.pth_cond.specs.Conditions.{seat_left}
use Rattle.pth_model.specs.Conditions.{leaves_seat, seat_of}
use Rattle.pth_world.proofs.Conditions.{seated_shows}
use Rattle.pth_waits.proofs.conditions.leave_seat.Goals as goal

pub returns-clause-shows : goal.returns-clause-shows
unfolding leaves_seat
returns-clause-shows g c =
    let changes = rw (c.conditions_mut.ensures.value, to_z-of_z c.ranges.c) at c.leave.ensures in
    λ k sh. seated_shows c.args.w.now c.leave.new.self (seat_left c.args.c (seat_of c.args.t.0)) k sh changes
