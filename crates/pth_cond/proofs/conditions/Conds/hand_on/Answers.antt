use Rattle.std.proofs.Common.{◌∙◌, ap, to_z-of_z, ℤ}
use Rattle.pth_cond.specs.Seats.{handed_on}
use Rattle.pth_cond.specs.Conditions.{conditions_of, seat_handed_on}
use Rattle.pth_cond.proofs.Seating.{order_handed_on}
use Rattle.pth_cond.proofs.EventSeats.{handed_on_lessens}
use Rattle.pth_cond.proofs.SeatingTables.{few_here, kept_changed, seats_past, beyond}
use Rattle.pth_cond.proofs.conditions.Conds.hand_on.Goals as goal

pub invariant_of-self : goal.invariant_of-self
invariant_of-self c = kept_changed c.self.inside.conditions c.hand_on_at.new.conditions c.self.invariant c.hand_on_at.ensures.long c.in-Some.place (handed_on c.args.seat) (order_handed_on c.args.seat) c.hand_on_at.ensures.changes c.hand_on_at.ensures.counted
    (few_here c.self.inside.conditions c.hand_on_at.new.conditions c.self.invariant c.hand_on_at.ensures.long c.in-Some.place (handed_on c.args.seat) (handed_on_lessens c.args.seat) c.hand_on_at.ensures.changes)

pub returns-in-Some : goal.returns-in-Some
returns-in-Some c =
    rw (← c.self.view_is, c.hand_on_at.ensures.changes, c.in-Some.ensures.named)
    (ap (λ (n : ℤ). seat_handed_on n c.args.seat (conditions_of c.self.inside.conditions)) (to_z-of_z c.ranges.c))

pub returns-in_default : goal.returns-in_default
returns-in_default c =
    rw (← c.self.view_is)
    (seats_past c.self.inside.conditions _ (handed_on c.args.seat) (beyond c.self.inside.conditions c.self.invariant _ c.in_default.ensures.none)
    ∙ ap (λ (n : ℤ). seat_handed_on n c.args.seat (conditions_of c.self.inside.conditions)) (to_z-of_z c.ranges.c))
