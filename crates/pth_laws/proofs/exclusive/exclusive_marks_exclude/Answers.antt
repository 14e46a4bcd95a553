use Rattle.pth_laws.proofs.Excludes.{exclusive_after}
use Rattle.pth_laws.proofs.exclusive.exclusive_marks_exclude.Goals as goal

pub returns : goal.returns
returns c = exclusive_after
