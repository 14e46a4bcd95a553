use Rattle.std.proofs.Common.{refl, sym, ap, option_map}
use Rattle.pth_model.specs.Allowance.{waited}
use Rattle.pth_world.proofs.Waits.{waited_is}
use Rattle.pth_world.proofs.world.World.waited.Goals as goal

pub returns-in-Some : goal.returns-in-Some
returns-in-Some g c k sh h = waited_is c.args.self.now.threads k c.requires sh.threads c.args.t.0 c.in-Some.slot.0 c.in-Some.ensures.at c.in-Some.ensures.stands h c.waited.result (rw c.counted.ensures at c.waited.ensures)

pub returns-in-None : goal.returns-in-None
returns-in-None g c k sh h = sym (ap (option_map (waited k.threads.trail)) (c.in-None.ensures.none refl k sh))
