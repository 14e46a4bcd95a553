use Rattle.std.proofs.Common.{refl}
use Rattle.pth_world.proofs.world.records.main_thread.Goals as goal

pub returns : goal.returns
returns c = rw c.cut.ensures refl
