use Rattle.std.proofs.Common.{◌-◌}
use Rattle.pth_end.proofs.handlers.+make_acts.Given as goal

abbrev pub decreases-make_acts : goal.decreases-make_acts
decreases-make_acts g l = 65 - l.index
