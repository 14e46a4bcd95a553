use Rattle.std.proofs.Common.{refl}
use Rattle.pth_kernel.specs.Arrivals.{arrived_of}
use Rattle.pth_kernel.proofs.arrived.Arrived.nothing.Goals as goal

pub returns : goal.returns
unfolding arrived_of
returns c = refl
