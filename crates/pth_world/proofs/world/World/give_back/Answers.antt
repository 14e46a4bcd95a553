use Rattle.std.proofs.Common.{◌≡◌, arith}
use Rattle.std.proofs.lemmas.Int.{ints}
use mir.Syntax.{w64}
use mir.Val.{to_z, of_z}
use Rattle.pth_model.specs.RingWaits.{gives_back}
use Rattle.pth_world.proofs.EventSeats.{returned_shows}
use Rattle.pth_world.proofs.world.World.give_back.Goals as goal

pub returns-in-Some-clause-shows : goal.returns-in-Some-clause-shows
returns-in-Some-clause-shows g c k sh =
    let is : to_z w64 (of_z w64 c.in-Some.e) ≡ c.in-Some.e = omega (arith, ints) in
    let left = rw is at c.leave_seats.ensures in
    let shown = rw (← c.self.view_is) at sh in
    let returned = rw (c.rings_mut.ensures.value, is) at c.unclaim_at.ensures in
    rw c.in-Some.is (returned_shows _ k shown c.in-Some.e c.leave_seats.new.conditions c.unclaim_at.new.self left returned)

pub returns-in_default-clause-shows : goal.returns-in_default-clause-shows
unfolding gives_back
returns-in_default-clause-shows g c k sh = rw c.in_default.is sh
