use Rattle.std.proofs.Common.{◌-◌}
use Rattle.pth_end.proofs.cleanups.+run_below.Given as goal

abbrev pub decreases-run_below : goal.decreases-run_below
decreases-run_below g l = 256 - l.n
