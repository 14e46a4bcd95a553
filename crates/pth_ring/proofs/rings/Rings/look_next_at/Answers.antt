use Rattle.pth_ring.proofs.Kept.{remade}
use Rattle.pth_ring.proofs.rings.Rings.look_next_at.Goals as goal

pub returns-clause-events : goal.returns-clause-events
returns-clause-events c = rw (← c.self.view_is) (remade c.self.inside.nodes _ c.args.place.0 _ c.self.invariant (rw c.self.view_is c.requires) c.set_next_look.ensures).events
