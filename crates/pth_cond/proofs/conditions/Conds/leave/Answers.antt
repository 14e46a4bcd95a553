use Rattle.std.proofs.Common.{◌∙◌, ap, to_z-of_z, ℤ}
use Rattle.pth_cond.specs.Seats.{without_seat}
use Rattle.pth_cond.specs.Conditions.{conditions_of, seat_left}
use Rattle.pth_cond.proofs.Seating.{order_left}
use Rattle.pth_cond.proofs.EventSeats.{left_lessens}
use Rattle.pth_cond.proofs.SeatingTables.{few_here, kept_changed, seats_past, beyond}
use Rattle.pth_cond.proofs.conditions.Conds.leave.Goals as goal

pub invariant_of-self : goal.invariant_of-self
invariant_of-self c = kept_changed c.self.inside.conditions c.leave_at.new.conditions c.self.invariant c.leave_at.ensures.long c.in-Some.place (without_seat c.args.seat) (order_left c.args.seat) c.leave_at.ensures.changes c.leave_at.ensures.counted
    (few_here c.self.inside.conditions c.leave_at.new.conditions c.self.invariant c.leave_at.ensures.long c.in-Some.place (without_seat c.args.seat) (left_lessens c.args.seat) c.leave_at.ensures.changes)

pub returns-in-Some : goal.returns-in-Some
returns-in-Some c =
    rw (← c.self.view_is, c.leave_at.ensures.changes, c.in-Some.ensures.named)
    (ap (λ (n : ℤ). seat_left n c.args.seat (conditions_of c.self.inside.conditions)) (to_z-of_z c.ranges.c))

pub returns-in_default : goal.returns-in_default
returns-in_default c =
    rw (← c.self.view_is)
    (seats_past c.self.inside.conditions _ (without_seat c.args.seat) (beyond c.self.inside.conditions c.self.invariant _ c.in_default.ensures.none)
    ∙ ap (λ (n : ℤ). seat_left n c.args.seat (conditions_of c.self.inside.conditions)) (to_z-of_z c.ranges.c))
