use Rattle.std.proofs.Common.{◌≡◌, ◌∙◌, ap, sym}
use Rattle.pth_numbered.specs.Operands.{number}
use Rattle.pth_cond.specs.Conditions.{conditions_of, no_conditions, seat_entered}
use Rattle.pth_ring.specs.Arena.{events_of}
use Rattle.pth_model.specs.EventSeats.{seats_changed}
use Rattle.pth_world.proofs.EventSeats.{none_entered, ring_shows}
use Rattle.pth_world.proofs.world.World.enter_ring.Goals as goal

pub returns-then-not-is_any_live-clause-shows : goal.returns-then-not-is_any_live-clause-shows
returns-then-not-is_any_live-clause-shows g c k sh =
    let w = c.args.self.now in
    let x = events_of w.events in
    let none : conditions_of w.conditions ≡ no_conditions = rw (← c.self.view_is) c.if-not-is_any_live.ensures in
    ring_shows w k sh seat_entered c.args.e w.conditions (none ∙ sym (none_entered x (x.rings (number c.args.e))) ∙ sym (ap (seats_changed seat_entered x (x.rings (number c.args.e))) none))
