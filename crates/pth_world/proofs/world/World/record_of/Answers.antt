use Rattle.std.proofs.Common.{◌∙◌, sym}
use Rattle.pth_world.proofs.Showing.{entry_is}
use Rattle.pth_world.proofs.Slots.{used}
use Rattle.pth_world.proofs.world.World.record_of.Goals as goal

pub get-requires : goal.get-requires
get-requires g c = rw c.threads.ensures (used c.args.self.now.threads c.args.t.0 c.args.slot.0 c.requires.sound c.requires.at)

pub returns : goal.returns
returns g c k sh = sym (entry_is _ k c.args.t.0 c.args.slot.0 c.requires.sound c.requires.at sh.threads ∙ (rw c.threads.ensures at c.get.ensures.entry))
