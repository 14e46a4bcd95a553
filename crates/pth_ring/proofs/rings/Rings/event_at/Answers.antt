use Rattle.std.proofs.Common.{◌∙◌}
use Rattle.pth_ring.proofs.Shown.{event-at}
use Rattle.pth_ring.proofs.rings.Rings.event_at.Goals as goal

pub returns : goal.returns
returns c = rw (← c.self.view_is) (event-at c.self.inside.nodes c.self.invariant c.args.place.0 (rw c.self.view_is c.requires) ∙ c.event_of.ensures)
