use Rattle.std.proofs.Common.{◌≡◌, ◌∙◌, sym, arith}
use Rattle.std.proofs.lemmas.Int.{ints}
use mir.Syntax.{w64}
use mir.Val.{to_z, of_z}
use Rattle.pth_ring.proofs.Shown.{event-at}
use Rattle.pth_ring.proofs.rings.Rings.event.Goals as goal

pub returns-in-Some : goal.returns-in-Some
returns-in-Some c =
    let is : to_z w64 (of_z w64 c.args.e) ≡ c.args.e = omega (arith, ints) in
    rw (← is, ← c.in-Some.ensures.named, ← c.self.view_is) (sym (event-at c.self.inside.nodes c.self.invariant c.in-Some.place.0 (rw c.self.view_is c.in-Some.ensures.used) ∙ c.event_of.ensures))
